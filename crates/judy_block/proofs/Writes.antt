-- A write to the word i of a block is one to the word after it in memory, where the header comes first.
use Rattle.std.proofs.Common.{◌≡◌, ℕ, suc, ◌+◌, ◌<◌, ◌∙◌, List, [], ◌∷◌, length, take, sym, ap, arith, slice_index, slice_set, length-take}
use Rattle.std.proofs.lemmas.List.{get_or-take}
use lib.Seq.{take-set-lt}
use Rattle.judy_block.specs.Layout.{contents_of, IsBlock, used_of}

in_use : (words : List ℕ) (used i : ℕ) → i < length (take used words) → i < used
in_use words used i h = omega (arith, length-take used words)

pub word_written : (items : List ℕ) (i word : ℕ) → IsBlock items → i < length (contents_of items).words
    → contents_of (slice_set items (i + 1) word) ≡ record (contents_of items) { words = slice_set (contents_of items).words i word }
word_written [] i word ok within = absurd ok
word_written (header ∷ words) i word ok within =
    let next : i + 1 ≡ suc i = omega arith in let used = used_of header in
    ap (λ k. contents_of (slice_set (header ∷ words) k word)) next ∙ ap (λ l. record (contents_of (header ∷ words)) { words = l }) (take-set-lt used words i word (in_use words used i within))

pub word_read : (items : List ℕ) (i : ℕ) → IsBlock items → i < length (contents_of items).words → slice_index items (i + 1) ≡ slice_index (contents_of items).words i
word_read [] i ok within = absurd ok
word_read (header ∷ words) i ok within =
    let next : i + 1 ≡ suc i = omega arith in let used = used_of header in
    ap (λ k. slice_index (header ∷ words) k) next ∙ sym (get_or-take used words i 0 (in_use words used i within))
