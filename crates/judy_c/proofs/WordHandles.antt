-- What a handle of words that holds no array stands for.
use Rattle.std.proofs.Common.{◌≡◌, ℕ, ◌-◌, ◌≤◌, ◌==◌, Bool, true, false, cond, [], slice_get, refl, sym, ap, ◌∙◌, Option, None, Some, subst, arith}
use Rattle.std.specs.Prelude.{IsFalse, is_some, unwrap_or}
use Rattle.std.specs.FinMap as map
use Rattle.std.specs.FinMap.{get-empty, len-empty, empty_of_len, nat_cmp-IsAntisymmetric}
use Rattle.std.proofs.lemmas.List.{nil_from_length}
use Rattle.std.specs.Cmp.{nat_cmp_total}
use Rattle.judy_model.specs.Keys.{word_order}
use Rattle.judy_model.specs.Arrays as array
use Rattle.judy_model.specs.Counts.{count, by_count}
use Rattle.judy_model.specs.Ranges.{within, outside}
use Rattle.judy_model.specs.Neighbours.{first, next, last, prev, first_of, next_of, last_of, prev_of}
use Rattle.judy_model.proofs.lemmas.maps.KeysLemmas.{length-keys}
use Rattle.judy_model.proofs.lemmas.maps.SortedMaps.{remove_absent}
use Rattle.judy_word.specs.WordArrays as words
use Rattle.judy_word.specs.WordArrays.{WordArray}
use Rattle.judy_sets.proofs.RangeFacts.{NoneInside, count-within, within-none, within-most, outside-all}
use Rattle.judy_c.specs.declared.held.Held.{Held}
use Rattle.judy_c.specs.Maps.{array_of, array_held, map_held}
use Rattle.judy_c.specs.NullArrays.{unbounded}

-- a null handle's array is without keys
no_map : (a : WordArray) → a ≡ unbounded → a.map ≡ map.empty
no_map a is = ap (λ (b : WordArray). b.map) is

-- it doesn't have this one
pub nothing_there : (a : WordArray) (key : ℕ) → a ≡ unbounded → false ≡ map.contains_key a.map key
nothing_there a key is = sym (ap (λ n. map.contains_key n key) (no_map a is) ∙ ap is_some (get-empty word_order key))

-- and has no value of it
pub nothing_held : (a : WordArray) (key : ℕ) → a ≡ unbounded → map.get a.map key ≡ None
nothing_held a key is = ap (λ n. map.get n key) (no_map a is) ∙ get-empty word_order key

-- nor has it one to take out
pub nothing_deleted : (a : WordArray) (key : ℕ) → a ≡ unbounded → words.array_of a ≡ array.with_map (words.array_of a) (array.del a.map key)
nothing_deleted a key is =
    ap (array.with_map (words.array_of a)) (sym (remove_absent nat_cmp_total nat_cmp-IsAntisymmetric a.map key (ap (λ n. map.get n key) (no_map a is) ∙ get-empty word_order key)))

no_keys : (a : WordArray) → a ≡ unbounded → map.keys a.map ≡ []
no_keys a is = nil_from_length (map.keys a.map) (length-keys a.map ∙ ap map.len (no_map a is) ∙ len-empty word_order ℕ)

-- nor a nearest one
pub nothing_first : (a : WordArray) (from : ℕ) → a ≡ unbounded → first a.map from ≡ None
unfolding first
nothing_first a from is = ap (λ keys. first_of word_order keys from) (no_keys a is)

pub nothing_next : (a : WordArray) (from : ℕ) → a ≡ unbounded → next a.map from ≡ None
unfolding next
nothing_next a from is = ap (λ keys. next_of word_order keys from) (no_keys a is)

pub nothing_last : (a : WordArray) (from : ℕ) → a ≡ unbounded → last a.map from ≡ None
unfolding last
nothing_last a from is = ap (λ keys. last_of word_order keys from) (no_keys a is)

pub nothing_prev : (a : WordArray) (from : ℕ) → a ≡ unbounded → prev a.map from ≡ None
unfolding prev
nothing_prev a from is = ap (λ keys. prev_of word_order keys from) (no_keys a is)

anyway : (b : Bool) (found : Option ℕ) → cond b found found ≡ found
anyway true found = refl
anyway false found = refl

-- nor an n-th one
pub nothing_by_count : (a : WordArray) (n : ℕ) → a ≡ unbounded → by_count a.map n ≡ None
unfolding by_count
nothing_by_count a n is = ap (λ keys. cond (n == 0) None (slice_get keys (n - 1))) (no_keys a is) ∙ anyway (n == 0) None

-- a handle that holds none has no key
pub null_has_none : (o : Option WordArray) (key : ℕ) → o ≡ None → IsFalse (map.contains_key (array_of o).map key)
null_has_none o key is = ap (λ (n : Option WordArray). map.contains_key (array_of n).map key) is ∙ ap is_some (get-empty word_order key)

-- nor a value
pub null_has_no_value : (o : Option WordArray) (key : ℕ) → o ≡ None → map.get (array_of o).map key ≡ None
null_has_no_value o key is = ap (λ (n : Option WordArray). map.get (array_of n).map key) is ∙ get-empty word_order key

-- Where a handle held none and came to hold the empty array with a change, it stands for what it stood for with that change.
pub changed_first : (change : array.ArrayOf word_order → array.ArrayOf word_order) (before after : Option WordArray) (made : WordArray) → before ≡ None →
    after ≡ Some made → words.array_of made ≡ change (words.array_of unbounded)
    → words.array_of (array_of after) ≡ change (words.array_of (array_of before))
changed_first change before after made none some is =
    ap (λ (o : Option WordArray). words.array_of (array_of o)) some ∙ is ∙ ap (λ (o : Option WordArray). change (words.array_of (array_of o))) (sym none)

-- a null handle has no key in a range
no_key_inside : (a : WordArray) (from to : ℕ) → a ≡ unbounded → NoneInside from to a.map
no_key_inside a from to is = λ key held. absurd (let never = nothing_there a key is ∙ held in cc)

pub nothing_counted : (a : WordArray) (from to : ℕ) → a ≡ unbounded → 0 ≡ count a.map from to
nothing_counted a from to is = sym (count-within from to a.map ∙ within-none from to a.map (no_key_inside a from to is))

pub nothing_taken_out : (a : WordArray) (from to : ℕ) → a ≡ unbounded → words.array_of a ≡ array.with_map (words.array_of a) (outside a.map from to)
nothing_taken_out a from to is = ap (array.with_map (words.array_of a)) (sym (outside-all from to a.map (no_key_inside a from to is)))

-- and none goes where a range is kept
pub nothing_goes : (a : WordArray) (from to : ℕ) → a ≡ unbounded → 0 ≡ map.len a.map - count a.map from to
nothing_goes a from to is =
    let none = ap map.len (no_map a is) ∙ len-empty word_order ℕ in
    omega (arith, none)

pub nothing_left_out : (a : WordArray) (from to : ℕ) → a ≡ unbounded → words.array_of a ≡ array.with_map (words.array_of a) (within a.map from to)
nothing_left_out a from to is =
    let none = ap map.len (no_map a is) ∙ len-empty word_order ℕ in
    let most = within-most from to a.map in
    let same : a.map ≡ within a.map from to = no_map a is ∙ sym (empty_of_len (within a.map from to) (omega (arith, none, most))) in
    ap (array.with_map (words.array_of a)) same

-- it has few keys
pub nothing_many : (a : WordArray) → a ≡ unbounded → map.len a.map ≤ 18446744073709551615
nothing_many a is =
    let none = ap map.len (no_map a is) ∙ len-empty word_order ℕ in
    omega (arith, none)

-- What a change makes of the empty array it makes of the one for which a null handle stands.
pub of_null : (change : map.FinMap word_order ℕ → map.FinMap word_order ℕ) (a b made : WordArray) → a ≡ unbounded → b ≡ unbounded
    → words.array_of made ≡ array.with_map (words.array_of a) (change a.map) → words.array_of made ≡ array.with_map (words.array_of b) (change b.map)
of_null change a b made one other is = subst (λ (w : WordArray). words.array_of made ≡ array.with_map (words.array_of w) (change w.map)) (one ∙ sym other) is

-- What a change makes of the array that a handle lent it makes of what the handle holds.
pub changed_held : (change : map.FinMap word_order ℕ → map.FinMap word_order ℕ) (before after : Held WordArray) (lent made : WordArray) → after ≡ record before { array = Some made }
    → Some lent ≡ before.array → words.array_of made ≡ array.with_map (words.array_of lent) (change lent.map) → array_held after ≡ array.with_map (array_held before) (change (map_held before))
changed_held change before after lent made kept held is =
    ap array_held kept ∙ subst (λ (o : Option WordArray). words.array_of made ≡ array.with_map (words.array_of (array_of o)) (change (array_of o).map)) held is
