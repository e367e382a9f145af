-- What an array keeps where a key was put into its tree.
use Rattle.std.proofs.Common.{◌≡◌, ◌≢◌, ℕ, ◌<◌, ◌≤◌, ◌^◌, ◌==◌, Bool, true, false, not, ◌&&◌, [], ◌∷◌, length, Ok, None, refl, sym, ap, ◌∙◌, subst, eq-eqb, arith}
use Rattle.std.specs.FinMap.{FinMap, get, contains_key, insert, empty, len, len-empty}
use Rattle.std.proofs.lemmas.Bool.{ne_eqb, cond-true, cond-false}
use Rattle.judy_model.specs.Keys.{word_order}
use Rattle.judy_model.specs.Arrays.{is_full}
use Rattle.judy_node.specs.Trees.{Pairs, Tree, IsNode}
use Rattle.judy_node.proofs.SlotFacts.{value-has}
use Rattle.judy_change.specs.Inserted.{IsInserted, has_key}
use Rattle.judy_change.proofs.PairPlaces.{length-with_pair}
use Rattle.judy_query.specs.Maps.{map_of}
use Rattle.judy_query.proofs.Links.{len_is}
use Rattle.judy_word.specs.Held.{Held, array_in, IsBounded, with_new}
use Rattle.judy_word.proofs.MapFacts.{get-value, has-key, value_in-is, map_of-with_pair}

-- A key that is there keeps its value, and one that is absent gets the new one.
pub new_present : (map : FinMap word_order ℕ) (key value : ℕ) → contains_key map key ≡ true → with_new map key value ≡ map
new_present map key value held = cond-true (contains_key map key) map (insert map key value) held

pub new_absent : (map : FinMap word_order ℕ) (key value : ℕ) → contains_key map key ≡ false → with_new map key value ≡ insert map key value
new_absent map key value absent = cond-false (contains_key map key) map (insert map key value) absent

module _ (words limit key : ℕ) (old : Tree) (loose : Bool) (node : IsNode words old) (bounded : IsBounded limit old loose) where
  abbrev pub held : Held
  held = record { limit = limit; tree = old; loose = loose }

  len-held : len (map_of old.pairs) ≡ length old.pairs
  len-held = len_is words (256 ^ 8) old.pairs node.map

  -- The map has the key where the tree has it.
  pub contains-has : contains_key (map_of old.pairs) key ≡ has_key key old
  contains-has = has-key words (256 ^ 8) old.pairs node.map key

  -- There is room for an absent key where the array isn't full for it.
  pub room-left : is_full (array_in held) key ≡ false → has_key key old ≡ false → length old.pairs < limit
  room-left free absent =
      let differs : (length old.pairs == limit) ≡ false =
      sym (ap (λ b. not b && (length old.pairs == limit)) (contains-has ∙ absent)) ∙ ap (λ n. not (contains_key (map_of old.pairs) key) && (n == limit)) (sym len-held) ∙ free in
      below (length old.pairs) differs bounded.within_limit
    where
      below : (n : ℕ) → (n == limit) ≡ false → n ≤ limit → n < limit
      below n differs within =
          let apart : n ≢ limit = λ same. let never : true ≡ false = sym (eq-eqb n limit same) ∙ differs in cc in
          omega (arith, apart, within)

  -- The empty map has no pairs.
  pub no_pairs : map_of old.pairs ≡ empty → old.pairs ≡ []
  no_pairs none = nothing old.pairs (sym len-held ∙ ap len none ∙ len-empty word_order ℕ)
    where
      nothing : (pairs : Pairs) → length pairs ≡ 0 → pairs ≡ []
      nothing [] long = refl
      nothing (pair ∷ pairs) long = absurd (omega (arith, long))

  -- An empty array isn't full.
  pub empty-free : old.pairs ≡ [] → is_full (array_in held) key ≡ false
  empty-free none =
      let long : len (map_of old.pairs) ≡ 0 = len-held ∙ ap length none in
      ap (λ n. not (contains_key (map_of old.pairs) key) && (n == limit)) long
      ∙ ap (λ b. not (contains_key (map_of old.pairs) key) && b) (ne_eqb 0 limit (λ same. let some = bounded.holds_some in omega arith))
      ∙ never_both (not (contains_key (map_of old.pairs) key))
    where
      never_both : (b : Bool) → (b && false) ≡ false
      never_both true = refl
      never_both false = refl

  -- An absent key has no value.
  pub get-absent : has_key key old ≡ false → get (map_of old.pairs) key ≡ None
  get-absent absent = get-value words (256 ^ 8) old.pairs node.map key ∙ value_in-is key old.pairs ∙ value-has key old.pairs absent

  -- ---- where the key was put in

  module _ (new : Tree) (key_fits : key < 256 ^ 8) (value : ℕ) (no_value : words ≡ 0 → value ≡ 0) where
    -- The array keeps its bounds.
    pub bounded-inserted : (added : Bool) → is_full (array_in held) key ≡ false → IsInserted {E = ℕ} key value old new (Ok added) → IsBounded limit new loose
    bounded-inserted true free is =
        let room = room-left free is.absent in
        let longer = length-with_pair key value old.pairs in
        record {
          holds_some = bounded.holds_some;
          within_limit = subst (λ pairs. length pairs ≤ limit) (sym is.pairs) (omega (arith, room, longer));
          tight = λ e. is.tight (bounded.tight e);
        }
    bounded-inserted false free is = subst (λ tree. IsBounded limit tree loose) (sym is.1) bounded

    -- It answers whether the key was absent.
    pub added-is : (added : Bool) → IsInserted {E = ℕ} key value old new (Ok added) → added ≡ not (contains_key (map_of old.pairs) key)
    added-is true is = sym (ap not (contains-has ∙ is.absent))
    added-is false is = sym (ap not (contains-has ∙ is.0))

    -- The map has the key, with the value where it was absent.
    pub map-inserted : (added : Bool) → IsInserted {E = ℕ} key value old new (Ok added) → map_of new.pairs ≡ with_new (map_of old.pairs) key value
    map-inserted true is =
        ap map_of is.pairs ∙ map_of-with_pair words (256 ^ 8) key value old.pairs node.map key_fits is.absent no_value
        ∙ sym (new_absent (map_of old.pairs) key value (contains-has ∙ is.absent))
    map-inserted false is = ap (λ (tree : Tree). map_of tree.pairs) is.1 ∙ sym (new_present (map_of old.pairs) key value (contains-has ∙ is.0))
