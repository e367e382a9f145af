-- What an array keeps where a key of its tree was given a value.
use Rattle.std.proofs.Common.{◌≡◌, ℕ, ◌<◌, ◌^◌, Bool, true, false, Option, Some, None, Ok, is_some, sym, ap, ◌∙◌, subst, arith}
use Rattle.std.specs.FinMap.{get, insert}
use Rattle.judy_model.specs.Arrays.{is_full}
use Rattle.judy_node.specs.Trees.{Tree, IsNode}
use Rattle.judy_change.specs.Exchanged.{IsExchanged}
use Rattle.judy_query.specs.Maps.{map_of}
use Rattle.judy_word.specs.Held.{array_in, IsBounded}
use Rattle.judy_word.proofs.MapFacts.{get-value, value_in-is, map_of-with_pair, map_of-written}
use Rattle.judy_word.proofs.InsertionFacts.{bounded-inserted, get-absent}
use Rattle.judy_word.proofs.RemovalFacts.{bounded-written}

module _ (words limit key : ℕ) (old : Tree) (loose : Bool) (node : IsNode words old) (bounded : IsBounded limit old loose) (new : Tree) (key_fits : key < 256 ^ 8) (value : ℕ) (one : words ≡ 1) where
  no_value : words ≡ 0 → value ≡ 0
  no_value none = let never : ⊥ = omega arith in absurd never

  -- The array keeps its bounds.
  pub bounded-exchanged : (was : Option ℕ) → is_full (array_in (record { limit = limit; tree = old; loose = loose })) key ≡ false → IsExchanged {E = ℕ} key value old new (Ok was) →
      IsBounded limit new loose
  bounded-exchanged None free is = bounded-inserted words limit key old loose node bounded new key_fits value no_value true free is
  bounded-exchanged (Some was) free is = subst (λ tree. IsBounded limit tree loose) (sym is.1) (bounded-written limit key value old loose bounded)

  -- It answers the value that the map had.
  pub was-is : (was : Option ℕ) → IsExchanged {E = ℕ} key value old new (Ok was) → was ≡ get (map_of old.pairs) key
  was-is None is = sym (get-absent words limit key old loose node bounded is.absent)
  was-is (Some was) is = sym (get-value words (256 ^ 8) old.pairs node.map key ∙ value_in-is key old.pairs ∙ is.0)

  -- The map has the key with the value.
  pub map-exchanged : (was : Option ℕ) → IsExchanged {E = ℕ} key value old new (Ok was) → map_of new.pairs ≡ insert (map_of old.pairs) key value
  map-exchanged None is = ap map_of is.pairs ∙ map_of-with_pair words (256 ^ 8) key value old.pairs node.map key_fits is.absent no_value
  map-exchanged (Some was) is =
      ap (λ (tree : Tree). map_of tree.pairs) is.1
      ∙ map_of-written words (256 ^ 8) key value old.pairs one node.map (ap is_some (value_in-is key old.pairs ∙ is.0))
