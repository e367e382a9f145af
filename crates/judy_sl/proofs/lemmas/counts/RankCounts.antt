-- Counts of words by ranks.
use Rattle.std.proofs.Common.{◌≡◌, ℕ, ◌+◌, ◌-◌, ◌≤◌, sym, ap, ◌∙◌, arith}
use Rattle.std.specs.Cmp.{nat_cmp_total}
use Rattle.std.specs.FinMap.{FinMap}
use Rattle.judy_model.specs.Keys.{word_order}
use Rattle.judy_model.specs.Counts.{rank, count}
use Rattle.judy_model.proofs.lemmas.queries.RankLemmas.{rank_is, count_from_least}
use Rattle.judy_model.proofs.lemmas.orders.FollowingLemmas.{rank-following}
use Rattle.judy_model.proofs.lemmas.orders.WordOrder.{le_word}

-- The words from 0 to the one before a word are those that are less.
pub words_below : (words : FinMap word_order ℕ) (piece : ℕ) → 1 ≤ piece → count words 0 (piece - 1) ≡ rank words piece
words_below words piece some =
    count_from_least nat_cmp_total words 0 (λ key. le_word 0 key (omega arith)) (piece - 1)
    ∙ sym (rank-following words (piece - 1))
    ∙ ap (rank words) (let e : (piece - 1) + 1 ≡ piece = omega arith in e)

-- No word is less than 0.
pub words_none : (words : FinMap word_order ℕ) → rank words 0 ≡ 0
words_none words = rank_is nat_cmp_total words 0 0 (omega arith) (λ k x at before. let never : ⊥ = omega arith in absurd never) (λ k x at after. le_word 0 x (omega arith))
