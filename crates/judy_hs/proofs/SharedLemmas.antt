-- Keys beside others: what a write to one chain leaves at each place.
use Rattle.std.proofs.Common.{◌≡◌, ◌≢◌, ℕ, false, [], Option, Some, is_some, IsSome, unwrap_or, Less, Equal, Greater, inl, inr, refl, sym, ap, ◌∙◌}
use Rattle.std.specs.BTreeMap as tree
use Rattle.std.specs.BTreeMap.{BTreeMap, WritesThrough}
use Rattle.std.specs.FinMap.{nat_cmp-IsAntisymmetric}
use Rattle.std.specs.Ordering.{nat_cmp, is_eq}
use Rattle.std.proofs.lemmas.Bool.{cases_eq}
use Rattle.judy_hs.specs.Chains.{Pairs}
use Rattle.judy_hs.specs.LongRecords.{others_at}

-- Another place is told apart.
apart-place : (place at : ℕ) → at ≢ place → is_eq (nat_cmp place at) ≡ false
apart-place place at apart = elim (nat_cmp place at) as (λ answer. nat_cmp place at ≡ answer → is_eq answer ≡ false) [
  | Less ↦ λ is. refl
  | Equal ↦ λ is. absurd (apart (sym (nat_cmp-IsAntisymmetric place at is)))
  | Greater ↦ λ is. refl
] refl

module _ (chains after : BTreeMap ℕ Pairs) (place : ℕ) (chain new : Pairs) (led : Some chain ≡ tree.get nat_cmp chains place) (through : WritesThrough nat_cmp (nat_cmp place) chains new after) where
  some : IsSome (tree.get nat_cmp chains place)
  some = ap (λ (found : Option Pairs). is_some found) (sym led)

  pub through-here : others_at after place ≡ new
  through-here = ap (λ (found : Option Pairs). unwrap_or found []) (through.3 some).1

  pub through-there : (at : ℕ) → at ≢ place → others_at after at ≡ others_at chains at
  through-there at apart = ap (λ (found : Option Pairs). unwrap_or found []) ((through.3 some).2 at (apart-place place at apart))

-- What is the same at a place and at the others is the same.
pub same-each : (chains after : BTreeMap ℕ Pairs) (place : ℕ) → others_at after place ≡ others_at chains place → ((at : ℕ) → at ≢ place → others_at after at ≡ others_at chains at) →
    (at : ℕ) → others_at after at ≡ others_at chains at
same-each chains after place here there at = elim (cases_eq at place) [
  | inl is ↦ ap (others_at after) is ∙ here ∙ ap (others_at chains) (sym is)
  | inr apart ↦ there at apart
]
