use Rattle.std.proofs.Common.{ℕ, zero, suc, ◌^◌, ◌<◌, slice_index, ap, ◌∙◌, arith}
use Rattle.judy_bits.specs.ByteSets.{absent}
use Rattle.judy_bits.proofs.AbsentLemmas.{members_of-absent}
use Rattle.judy_bits.proofs.bits_ref.BitsRef.absent.Goals as goal

pub returns : goal.returns
returns c =
    let first : slice_index c.self.inside.words.now 0 < 2 ^ 64 = omega arith in
    let second : slice_index c.self.inside.words.now 1 < 2 ^ 64 = omega arith in
    let third : slice_index c.self.inside.words.now 2 < 2 ^ 64 = omega arith in
    let fourth : slice_index c.self.inside.words.now 3 < 2 ^ 64 = omega arith in
    c.of_words.ensures ∙ members_of-absent c.self.inside.words.now (all c.self.inside.words.now first second third fourth) ∙ ap absent c.self.view_is
  where
    all : (words : _) → slice_index words 0 < 2 ^ 64 → slice_index words 1 < 2 ^ 64 → slice_index words 2 < 2 ^ 64 → slice_index words 3 < 2 ^ 64 → (word : ℕ) →
        word < 4 → slice_index words word < 2 ^ 64
    all words first second third fourth zero inside = first
    all words first second third fourth (suc zero) inside = second
    all words first second third fourth (suc (suc zero)) inside = third
    all words first second third fourth (suc (suc (suc zero))) inside = fourth
    all words first second third fourth (suc (suc (suc (suc n)))) inside = let never : ⊥ = omega arith in absurd never
