use Rattle.std.proofs.Common.{◌≡◌, ℕ, List, Option, None, Some, MatchOption, subst, ◌∙◌, arith}
use Rattle.std.specs.FinMap.{get}
use Rattle.judy_model.specs.KeyLengths.{IsBytesKeyTo}
use Rattle.judy_hs.specs.declared.groups.KeyPlace.{KeyPlace}
use Rattle.judy_hs.specs.Found.{StandsAt}
use Rattle.judy_hs.specs.Keyed.{Keyed, in_keyed, IsSpot}
use Rattle.judy_hs.specs.Kept.{map_of}
use Rattle.judy_hs.specs.Parts.{part_of}
use Rattle.judy_hs.proofs.HsLemmas.{is_key_of, get_part, get_long}
use Rattle.judy_hs.proofs.judyhs.spot_of.Goals as goal

-- what is found under the word of a key is where the key stands
stands : (hash_of : List ℕ → ℕ) (longest : ℕ) (keyed : Keyed) (key : List ℕ) → IsBytesKeyTo longest key → (part : ℕ) → part ≡ part_of hash_of key → (found : Option KeyPlace) →
    MatchOption found (in_keyed keyed part key ≡ None) (λ spot. IsSpot keyed part key spot.group spot.inside) →
    MatchOption found (get (map_of hash_of longest keyed) key ≡ None) (StandsAt hash_of longest keyed key)
stands hash_of longest keyed key is_key part is None absent = get_part hash_of longest keyed key is_key part is ∙ absent
stands hash_of longest keyed key is_key part is (Some spot) at = record { is_key = is_key; is_spot = subst (λ word. IsSpot keyed word key spot.group spot.inside) is at }

pub returns-then-key-LONGEST : goal.returns-then-key-LONGEST
returns-then-key-LONGEST g c = get_long g.H.ByteHash.hash_of g.H.ByteHash.LONGEST c.args.groups.now c.args.key.now (rw c.LONGEST.ensures at c.if-key-LONGEST.true)

pub returns : goal.returns
returns g c =
    let is_key = is_key_of g.H.ByteHash.LONGEST c.args.key.now (λ i. omega (arith, c.type_inv.key i)) (rw c.LONGEST.ensures at c.if-key-LONGEST.false) in
    stands g.H.ByteHash.hash_of g.H.ByteHash.LONGEST c.args.groups.now c.args.key.now is_key c.part_of-part.result c.part_of-part.ensures c.find.result c.find.ensures
