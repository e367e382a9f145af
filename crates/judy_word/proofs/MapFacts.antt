-- What a tree's pairs become by a change, as what the map that they are becomes.
use Rattle.std.proofs.Common.{◌≡◌, ◌≢◌, ℕ, zero, suc, ◌<◌, ◌≤◌, true, false, cond, [], ◌∷◌, length, Some, None, is_some, eqb, ◌⊎◌, inl, inr, ⊎_elim, refl, sym, ap, ◌∙◌, arith}
use Rattle.std.specs.Cmp.{nat_cmp_total, unsigned_tied}
use Rattle.std.specs.List as list
use Rattle.std.specs.FinMap.{get, contains_key, insert, remove, find, same_map, nat_cmp-IsAntisymmetric}
use Rattle.std.proofs.lemmas.Bool.{eq-eqb, ne_eqb}
use Rattle.std.proofs.lemmas.Bool.Decides.{eqb_tells}
use Rattle.judy_model.specs.Keys.{word_order}
use Rattle.judy_model.proofs.lemmas.maps.ChangesLemmas.{get-write_same, get-write_other, get-del_same, get-del_other}
use Rattle.judy_bits.specs.ByteSets.{has, rank}
use Rattle.judy_leaf.specs.KeyLists.{keys_of, with_pair}
use Rattle.judy_node.specs.Trees.{Pairs, IsMap}
use Rattle.judy_node.specs.Slots.{value_of, written}
use Rattle.judy_node.proofs.SlotFacts.{value-has, written-map}
use Rattle.judy_change.specs.Removals.{value_in, without}
use Rattle.judy_change.proofs.Without.{value-same, value-apart, without-same, without-apart, map-without}
use Rattle.judy_change.proofs.PairPlaces.{map-with_pair, rank-most}
use Rattle.judy_query.specs.Maps.{map_of}
use Rattle.judy_query.proofs.Links.{get_is, held_is}

pub same_or : (one other : ℕ) → (one ≡ other) ⊎ (one ≢ other)
same_or one other = ⊎_elim (λ h. inl h.1) (λ h. inr h.1) (eqb_tells one other)

either_way : (one other : ℕ) → eqb one other ≡ eqb other one
either_way one other = ⊎_elim
    (λ (same : one ≡ other). eq-eqb one other same ∙ sym (eq-eqb other one (sym same)))
    (λ (apart : one ≢ other). ne_eqb one other apart ∙ sym (ne_eqb other one (λ e. apart (sym e))))
    (same_or one other)

-- ---- the value of a key

pub value_in-is : (key : ℕ) (pairs : Pairs) → value_in pairs key ≡ value_of key pairs
value_in-is key [] = refl
value_in-is key (pair ∷ pairs) = ap (λ rest. cond (eqb pair.0 key) (Some pair.1) rest) (value_in-is key pairs)

find-is : (key : ℕ) (pairs : Pairs) → find word_order key pairs ≡ value_in pairs key
find-is key [] = refl
find-is key (pair ∷ pairs) =
    ap (λ b. cond b (Some pair.1) (find word_order key pairs)) (unsigned_tied key pair.0 ∙ either_way key pair.0)
    ∙ ap (λ rest. cond (eqb pair.0 key) (Some pair.1) rest) (find-is key pairs)

module _ (words top : ℕ) (pairs : Pairs) (is : IsMap words 0 top pairs) (key : ℕ) where
  -- The map has the value that stands beside the key.
  pub get-value : get (map_of pairs) key ≡ value_in pairs key
  get-value = get_is words top pairs is key ∙ find-is key pairs

  -- It has the key where one of the pairs does.
  pub has-key : contains_key (map_of pairs) key ≡ has (keys_of pairs) key
  has-key = held_is words top pairs is key

-- ---- a key taken out

without_same : (key : ℕ) (pairs : Pairs) → value_in (without key pairs) key ≡ None
without_same key [] = refl
without_same key (pair ∷ pairs) = ⊎_elim
    (λ (same : pair.0 ≡ key). ap (λ rest. value_in rest key) (without-same pair pairs key same) ∙ without_same key pairs)
    (λ (apart : pair.0 ≢ key). ap (λ rest. value_in rest key) (without-apart pair pairs key apart) ∙ value-apart pair (without key pairs) key apart ∙ without_same key pairs)
    (same_or pair.0 key)

without_other : (key other : ℕ) (pairs : Pairs) → key ≢ other → value_in (without key pairs) other ≡ value_in pairs other
without_other key other [] apart = refl
without_other key other (pair ∷ pairs) apart = ⊎_elim
    (λ (same : pair.0 ≡ key).
    ap (λ rest. value_in rest other) (without-same pair pairs key same) ∙ without_other key other pairs apart ∙ sym (value-apart pair pairs other (λ e. apart (sym same ∙ e))))
    (λ (differ : pair.0 ≢ key).
    ap (λ rest. value_in rest other) (without-apart pair pairs key differ)
    ∙ ap (λ rest. cond (eqb pair.0 other) (Some pair.1) rest) (without_other key other pairs apart))
    (same_or pair.0 key)

-- The map is that without the key.
pub map_of-without : (words top key : ℕ) (pairs : Pairs) → IsMap words 0 top pairs → map_of (without key pairs) ≡ remove (map_of pairs) key
map_of-without words top key pairs is =
    let left = map-without words 0 top key pairs is in
    same_map nat_cmp_total nat_cmp-IsAntisymmetric (map_of (without key pairs)) (remove (map_of pairs) key) (λ other. ⊎_elim
    (λ (same : key ≡ other).
    ap (get (map_of (without key pairs))) (sym same) ∙ get-value words top (without key pairs) left key ∙ without_same key pairs
    ∙ sym (ap (get (remove (map_of pairs) key)) (sym same) ∙ get-del_same nat_cmp_total (map_of pairs) key))
    (λ (apart : key ≢ other).
    get-value words top (without key pairs) left other ∙ without_other key other pairs apart
    ∙ sym (get-del_other nat_cmp_total (map_of pairs) key nat_cmp-IsAntisymmetric other apart ∙ get-value words top pairs is other))
    (same_or key other))

-- ---- a value written

written_same : (key value : ℕ) (pairs : Pairs) → is_some (value_in pairs key) ≡ true → value_in (written key value pairs) key ≡ Some value
written_same key value [] held = cc
written_same key value (pair ∷ pairs) held = ⊎_elim
    (λ (same : pair.0 ≡ key).
    value-same (pair.0, cond (eqb pair.0 key) value pair.1) (written key value pairs) key same ∙ ap (λ b. Some (cond b value pair.1)) (eq-eqb pair.0 key same))
    (λ (apart : pair.0 ≢ key).
    value-apart (pair.0, cond (eqb pair.0 key) value pair.1) (written key value pairs) key apart
    ∙ written_same key value pairs (ap is_some (sym (value-apart pair pairs key apart)) ∙ held))
    (same_or pair.0 key)

written_other : (key other value : ℕ) (pairs : Pairs) → key ≢ other → value_in (written key value pairs) other ≡ value_in pairs other
written_other key other value [] apart = refl
written_other key other value (pair ∷ pairs) apart = ⊎_elim
    (λ (same : pair.0 ≡ other).
    value-same (pair.0, cond (eqb pair.0 key) value pair.1) (written key value pairs) other same
    ∙ ap (λ b. Some (cond b value pair.1)) (ne_eqb pair.0 key (λ e. apart (sym e ∙ same)))
    ∙ sym (value-same pair pairs other same))
    (λ (differ : pair.0 ≢ other).
    value-apart (pair.0, cond (eqb pair.0 key) value pair.1) (written key value pairs) other differ
    ∙ written_other key other value pairs apart ∙ sym (value-apart pair pairs other differ))
    (same_or pair.0 other)

-- The map has that value at the key, which was there.
pub map_of-written : (words top key value : ℕ) (pairs : Pairs) → words ≡ 1 → IsMap words 0 top pairs → is_some (value_in pairs key) ≡ true →
    map_of (written key value pairs) ≡ insert (map_of pairs) key value
map_of-written words top key value pairs one is held =
    let now = written-map words 0 top key value pairs one is in
    same_map nat_cmp_total nat_cmp-IsAntisymmetric (map_of (written key value pairs)) (insert (map_of pairs) key value) (λ other. ⊎_elim
    (λ (same : key ≡ other).
    ap (get (map_of (written key value pairs))) (sym same) ∙ get-value words top (written key value pairs) now key ∙ written_same key value pairs held
    ∙ sym (ap (get (insert (map_of pairs) key value)) (sym same) ∙ get-write_same nat_cmp_total (map_of pairs) key value))
    (λ (apart : key ≢ other).
    get-value words top (written key value pairs) now other ∙ written_other key other value pairs apart
    ∙ sym (get-write_other nat_cmp_total (map_of pairs) key nat_cmp-IsAntisymmetric value other apart ∙ get-value words top pairs is other))
    (same_or key other))

-- ---- a pair put in

put_same : (key value at : ℕ) (pairs : Pairs) → at ≤ length pairs → value_in pairs key ≡ None → value_in (list.insert pairs at (key, value)) key ≡ Some value
put_same key value zero pairs within absent = value-same (key, value) pairs key refl
put_same key value (suc at) [] within absent = absurd (omega (arith, within))
put_same key value (suc at) (pair ∷ pairs) within absent = ⊎_elim
    (λ (same : pair.0 ≡ key). let never = sym (value-same pair pairs key same) ∙ absent in cc)
    (λ (apart : pair.0 ≢ key).
    value-apart pair (list.insert pairs at (key, value)) key apart ∙ put_same key value at pairs (omega (arith, within)) (sym (value-apart pair pairs key apart) ∙ absent))
    (same_or pair.0 key)

put_other : (key other value at : ℕ) (pairs : Pairs) → at ≤ length pairs → key ≢ other → value_in (list.insert pairs at (key, value)) other ≡ value_in pairs other
put_other key other value zero pairs within apart = value-apart (key, value) pairs other apart
put_other key other value (suc at) [] within apart = absurd (omega (arith, within))
put_other key other value (suc at) (pair ∷ pairs) within apart = ap (λ rest. cond (eqb pair.0 other) (Some pair.1) rest) (put_other key other value at pairs (omega (arith, within)) apart)

-- The map has the key, which was absent, with its value.
pub map_of-with_pair : (words top key value : ℕ) (pairs : Pairs) → IsMap words 0 top pairs → key < top → has (keys_of pairs) key ≡ false → (words ≡ 0 → value ≡ 0) →
    map_of (with_pair key value pairs) ≡ insert (map_of pairs) key value
map_of-with_pair words top key value pairs is below absent free =
    let now = map-with_pair words 0 top key value pairs is (omega arith) below absent free in
    let most = rank-most key pairs in
    let none = value_in-is key pairs ∙ value-has key pairs absent in
    same_map nat_cmp_total nat_cmp-IsAntisymmetric (map_of (with_pair key value pairs)) (insert (map_of pairs) key value) (λ other. ⊎_elim
    (λ (same : key ≡ other).
    ap (get (map_of (with_pair key value pairs))) (sym same) ∙ get-value words top (with_pair key value pairs) now key ∙ put_same key value (rank (keys_of pairs) key) pairs most none
    ∙ sym (ap (get (insert (map_of pairs) key value)) (sym same) ∙ get-write_same nat_cmp_total (map_of pairs) key value))
    (λ (apart : key ≢ other).
    get-value words top (with_pair key value pairs) now other ∙ put_other key other value (rank (keys_of pairs) key) pairs most apart
    ∙ sym (get-write_other nat_cmp_total (map_of pairs) key nat_cmp-IsAntisymmetric value other apart ∙ get-value words top pairs is other))
    (same_or key other))
