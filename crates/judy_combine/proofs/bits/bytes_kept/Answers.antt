use Rattle.std.proofs.Common.{◌≡◌, ℕ, zero, suc, ◌<◌, ◌==◌, List, [], ◌∷◌, slice_index, ap, ◌∙◌, arith}
use Rattle.std.specs.Int.{bit_at}
use Rattle.judy_bits.specs.ByteSets.{has}
use Rattle.judy_combine.specs.KeptBits.{is_kept}
use Rattle.judy_combine.proofs.BitFacts.{kept_bytes}
use Rattle.judy_combine.proofs.bits.bytes_kept.Goals as goal

pub returns : goal.returns
returns c byte small =
    ap (λ bytes. has bytes byte) c.of_words.ensures
    ∙ kept_bytes c.args.keep c.words-ours.result c.words-theirs.result made bits byte small
    ∙ (λ t. is_kept c.args.keep (has (c.words-ours.ensures t) byte) (has (c.words-theirs.ensures t) byte))
  where
    made : List ℕ
    made = c.word_kept-first.result ∷ c.word_kept-second.result ∷ c.word_kept-third.result ∷ c.word_kept-fourth.result ∷ []

    bits : (word : ℕ) → word < 4 → (place : ℕ) → place < 64 → (bit_at (slice_index made word) place == 1)
        ≡ is_kept c.args.keep (bit_at (slice_index c.words-ours.result word) place == 1) (bit_at (slice_index c.words-theirs.result word) place == 1)
    bits zero inside = c.word_kept-first.ensures
    bits (suc zero) inside = c.word_kept-second.ensures
    bits (suc (suc zero)) inside = c.word_kept-third.ensures
    bits (suc (suc (suc zero))) inside = c.word_kept-fourth.ensures
    bits (suc (suc (suc (suc n)))) inside = let never : ⊥ = omega arith in absurd never
