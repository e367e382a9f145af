-- The values of keys: under shifts, behind one another, in leaves and among the pairs of children.
use Rattle.std.proofs.Common.{◌≡◌, ℕ, zero, suc, ◌+◌, ◌*◌, ◌^◌, ◌<◌, ◌≤◌, ◌||◌, true, false, cond, eqb, IsFalse, List, [], ◌∷◌, ◌++◌, length, get_or, set, slice_get, Some, None}
use Rattle.std.proofs.Common.{sym, refl, ap, ◌∙◌, subst, ⊎_elim, arith, ne_eqb}
use Rattle.std.proofs.Math.Nat.{add-mul}
use Rattle.std.proofs.lemmas.Nat.{mul-le}
use Rattle.std.proofs.lemmas.Bool.{cases_order, eq-eqb}
use Rattle.std.proofs.lemmas.Option.{same_Some}
use Rattle.judy_model.specs.Shapes.{form_of}
use Rattle.judy_bits.specs.ByteSets.{has, place, rank}
use Rattle.judy_bits.proofs.SetLemmas.{slice_get-rank}
use Rattle.judy_leaf.specs.KeyLists.{keys_of, values_of, shift, valued}
use Rattle.judy_node.specs.Trees.{Pairs, Tree, IsMap, join, forms_in, IsChild, AreChildren}
use Rattle.judy_node.specs.Slots.{value_of, written, with_value}
use Rattle.judy_node.proofs.Leaves.{map_ascends}
use Rattle.judy_node.proofs.Maps.{map-shift, join-map}

-- ---- the value of a key

same_behind : (by one other : ℕ) → eqb (by + one) (by + other) ≡ eqb one other
same_behind by one other = ⊎_elim
    (λ same. eq-eqb (by + one) (by + other) (omega arith) ∙ sym (eq-eqb one other same))
    (λ apart.
    let differ : one ≡ other → ⊥ = λ e. ⊎_elim (λ less. omega arith) (λ more. omega arith) apart in
    ne_eqb (by + one) (by + other) (λ e. differ (omega arith)) ∙ sym (ne_eqb one other differ))
    (cases_order one other)

pub value-shift : (by key : ℕ) (pairs : Pairs) → value_of (by + key) (shift by pairs) ≡ value_of key pairs
value-shift by key [] = refl
value-shift by key (pair ∷ pairs) = λ t. cond (same_behind by pair.0 key t) (Some pair.1) (value-shift by key pairs t)

pub value-behind : (key : ℕ) (one other : Pairs) → value_of key one ≡ None → value_of key (one ++ other) ≡ value_of key other
value-behind key [] other none = refl
value-behind key (pair ∷ one) other none =
    elim (eqb pair.0 key) as (λ b. cond b (Some pair.1) (value_of key one) ≡ None → cond b (Some pair.1) (value_of key (one ++ other)) ≡ value_of key other) [
      | true ↦ λ never. cc
      | false ↦ λ rest. value-behind key one other rest
    ] none

pub value-before : (key : ℕ) (one other : Pairs) → value_of key other ≡ None → value_of key (one ++ other) ≡ value_of key one
value-before key [] other none = none
value-before key (pair ∷ one) other none = ap (cond (eqb pair.0 key) (Some pair.1)) (value-before key one other none)

pub value-low : (words low top key : ℕ) (pairs : Pairs) → IsMap words low top pairs → key < low → value_of key pairs ≡ None
value-low words low top key [] map below = refl
value-low words low top key (pair ∷ pairs) map below =
    let first = map.0 in
    ap (λ b. cond b (Some pair.1) (value_of key pairs)) (ne_eqb pair.0 key (λ e. omega arith)) ∙ value-low words (pair.0 + 1) top key pairs map.3 (omega arith)

pub value-high : (words low top key : ℕ) (pairs : Pairs) → IsMap words low top pairs → top ≤ key → value_of key pairs ≡ None
value-high words low top key [] map above = refl
value-high words low top key (pair ∷ pairs) map above =
    let last = map.1 in
    ap (λ b. cond b (Some pair.1) (value_of key pairs)) (ne_eqb pair.0 key (λ e. omega arith)) ∙ value-high words (pair.0 + 1) top key pairs map.3 above

-- ---- another value

pub written-shift : (by key value : ℕ) (pairs : Pairs) → written (by + key) value (shift by pairs) ≡ shift by (written key value pairs)
written-shift by key value [] = refl
written-shift by key value (pair ∷ pairs) = λ t. (by + pair.0, cond (same_behind by pair.0 key t) value pair.1) ∷ written-shift by key value pairs t

pub written-append : (key value : ℕ) (one other : Pairs) → written key value (one ++ other) ≡ written key value one ++ written key value other
written-append key value [] other = refl
written-append key value (pair ∷ one) other = ap (λ rest. (pair.0, cond (eqb pair.0 key) value pair.1) ∷ rest) (written-append key value one other)

pub written-none : (key value : ℕ) (pairs : Pairs) → value_of key pairs ≡ None → written key value pairs ≡ pairs
written-none key value [] none = refl
written-none key value (pair ∷ pairs) none =
    elim (eqb pair.0 key) as (λ b. cond b (Some pair.1) (value_of key pairs) ≡ None → (pair.0, cond b value pair.1) ∷ written key value pairs ≡ pair ∷ pairs) [
      | true ↦ λ never. cc
      | false ↦ λ rest. ap (λ ps. pair ∷ ps) (written-none key value pairs rest)
    ] none

pub written-keys : (key value : ℕ) (pairs : Pairs) → keys_of (written key value pairs) ≡ keys_of pairs
written-keys key value [] = refl
written-keys key value (pair ∷ pairs) = ap (λ rest. pair.0 ∷ rest) (written-keys key value pairs)

pub written-length : (key value : ℕ) (pairs : Pairs) → length (written key value pairs) ≡ length pairs
written-length key value [] = refl
written-length key value (pair ∷ pairs) = ap suc (written-length key value pairs)

pub written-map : (words low top key value : ℕ) (pairs : Pairs) → words ≡ 1 → IsMap words low top pairs → IsMap words low top (written key value pairs)
written-map words low top key value [] one map = tt
written-map words low top key value (pair ∷ pairs) one map =
    (map.0, map.1, (λ (none : words ≡ 0). let never : ⊥ = omega arith in absurd never), written-map words (pair.0 + 1) top key value pairs one map.3)

pub written-child : (words width key value : ℕ) (tree : Tree) → words ≡ 1 → IsChild words width tree → IsChild words width (with_value tree key value)
written-child words width key value tree one is =
    let long = written-length key value tree.pairs in
    record {
      low_width = is.low_width;
      high_width = is.high_width;
      wide = is.wide;
      some = subst (λ n. 0 < n) (sym long) is.some;
      map = written-map words 0 (256 ^ width) key value tree.pairs one is.map;
      nodes = subst (λ n. length tree.form ≤ width * n) (sym long) is.nodes;
      shaped = λ tight. is.shaped tight ∙ ap (form_of words width) (sym (written-keys key value tree.pairs));
    }

-- ---- leaves

pub key-from : (words low top at key : ℕ) (pairs : Pairs) → IsMap words low top pairs → slice_get (keys_of pairs) at ≡ Some key → low ≤ key
key-from words low top at key [] map there = cc
key-from words low top zero key (pair ∷ pairs) map there = let first = map.0 in let same = same_Some pair.0 key there in omega arith
key-from words low top (suc at) key (pair ∷ pairs) map there =
    let first = map.0 in
    let later = key-from words (pair.0 + 1) top at key pairs map.3 there in
    omega arith

pub value-there : (words low top at key : ℕ) (pairs : Pairs) → IsMap words low top pairs → slice_get (keys_of pairs) at ≡ Some key → value_of key pairs ≡ Some (get_or (values_of pairs) at 0)
value-there words low top at key [] map there = cc
value-there words low top zero key (pair ∷ pairs) map there = ap (λ b. cond b (Some pair.1) (value_of key pairs)) (eq-eqb pair.0 key (same_Some pair.0 key there))
value-there words low top (suc at) key (pair ∷ pairs) map there =
    let later = key-from words (pair.0 + 1) top at key pairs map.3 there in
    ap (λ b. cond b (Some pair.1) (value_of key pairs)) (ne_eqb pair.0 key (λ e. omega arith)) ∙ value-there words (pair.0 + 1) top at key pairs map.3 there

pub written-there : (words low top at key value : ℕ) (pairs : Pairs) → IsMap words low top pairs → slice_get (keys_of pairs) at ≡ Some key → valued at pairs value ≡ written key value pairs
written-there words low top at key value [] map there = cc
written-there words low top zero key value (pair ∷ pairs) map there =
    let same = same_Some pair.0 key there in
    λ t. (pair.0, cond (sym (eq-eqb pair.0 key same) t) value pair.1) ∷ sym (written-none key value pairs (value-low words (pair.0 + 1) top key pairs map.3 (omega arith))) t
written-there words low top (suc at) key value (pair ∷ pairs) map there =
    let later = key-from words (pair.0 + 1) top at key pairs map.3 there in
    λ t. (pair.0, cond (sym (ne_eqb pair.0 key (λ e. omega arith)) t) value pair.1) ∷ written-there words (pair.0 + 1) top at key value pairs map.3 there t

pub value-has : (key : ℕ) (pairs : Pairs) → IsFalse (has (keys_of pairs) key) → value_of key pairs ≡ None
value-has key [] absent = refl
value-has key (pair ∷ pairs) absent =
    elim (eqb pair.0 key) as (λ b. IsFalse (b || has (keys_of pairs) key) → cond b (Some pair.1) (value_of key pairs) ≡ None) [
      | true ↦ λ never. cc
      | false ↦ λ rest. value-has key pairs rest
    ] absent

-- A key stands at its place.
pub place-there : (words low top at key : ℕ) (pairs : Pairs) → IsMap words low top pairs → place (keys_of pairs) key ≡ Some at → slice_get (keys_of pairs) at ≡ Some key
place-there words low top at key pairs map found =
    let keys = keys_of pairs in
    elim (has keys key) as (λ b. has keys key ≡ b → cond b (Some (rank keys key)) None ≡ Some at → slice_get keys at ≡ Some key) [
      | true ↦ λ held some. ap (slice_get keys) (sym (same_Some (rank keys key) at some)) ∙ slice_get-rank keys (map_ascends words low top pairs map) key held
      | false ↦ λ _ none. cc
    ] refl found

-- ---- children

-- A child's keys lie below those of a later byte, and above those of an earlier one.
ends_before : (block byte later unit rest : ℕ) → byte < later → (block + byte) * unit + unit ≤ (block + later) * unit + rest
ends_before block byte later unit rest below =
    let one = add-mul (block + byte) 1 unit in
    let whole = mul-le (block + byte + 1) unit (block + later) unit (omega arith) (omega arith) in
    omega arith

shift_high : (words width block byte later rest : ℕ) (kid : Tree) → IsChild words width kid → byte < later →
    value_of ((block + later) * 256 ^ width + rest) (shift ((block + byte) * 256 ^ width) kid.pairs) ≡ None
shift_high words width block byte later rest kid is below =
    let unit = 256 ^ width in
    value-high words ((block + byte) * unit + 0) ((block + byte) * unit + unit) ((block + later) * unit + rest) (shift ((block + byte) * unit) kid.pairs)
    (map-shift words 0 unit ((block + byte) * unit) kid.pairs is.map) (ends_before block byte later unit rest below)

shift_low : (words width block byte later rest : ℕ) (kid : Tree) → IsChild words width kid → byte < later → rest < 256 ^ width →
    value_of ((block + byte) * 256 ^ width + rest) (shift ((block + later) * 256 ^ width) kid.pairs) ≡ None
shift_low words width block byte later rest kid is below within =
    let unit = 256 ^ width in
    let apart = ends_before block byte later unit 0 below in
    value-low words ((block + later) * unit + 0) ((block + later) * unit + unit) ((block + byte) * unit + rest) (shift ((block + later) * unit) kid.pairs)
    (map-shift words 0 unit ((block + later) * unit) kid.pairs is.map) (omega arith)

join_low : (words width block byte rest : ℕ) (bytes : List ℕ) (kids : List Tree) → byte < 256 → AreChildren words width (byte + 1) bytes kids → rest < 256 ^ width →
    value_of ((block + byte) * 256 ^ width + rest) (join (256 ^ width) block bytes kids) ≡ None
join_low words width block byte rest bytes kids small are within =
    let unit = 256 ^ width in
    let apart = ends_before block byte (byte + 1) unit 0 (omega arith) in
    value-low words ((block + (byte + 1)) * unit) ((block + 256) * unit) ((block + byte) * unit + rest) (join unit block bytes kids)
    (join-map words width (byte + 1) block bytes kids (omega arith) are) (omega arith)

pub byte-from : (words width low at byte : ℕ) (bytes : List ℕ) (kids : List Tree) → AreChildren words width low bytes kids → slice_get bytes at ≡ Some byte → low ≤ byte
byte-from words width low at byte [] kids are there = cc
byte-from words width low at byte (first ∷ bytes) [] are there = absurd are
byte-from words width low zero byte (first ∷ bytes) (kid ∷ kids) are there = let here = are.0 in let same = same_Some first byte there in omega arith
byte-from words width low (suc at) byte (first ∷ bytes) (kid ∷ kids) are there =
    let here = are.0 in
    let later = byte-from words width (first + 1) at byte bytes kids are.3 there in
    omega arith

-- The value of a key of a child.
pub join-value : (words width low block at byte rest : ℕ) (bytes : List ℕ) (kids : List Tree) (d : Tree) → AreChildren words width low bytes kids → slice_get bytes at ≡ Some byte → rest < 256 ^ width
    → value_of ((block + byte) * 256 ^ width + rest) (join (256 ^ width) block bytes kids) ≡ value_of rest (get_or kids at d).pairs
join-value words width low block at byte rest [] kids d are there within = cc
join-value words width low block at byte rest (first ∷ bytes) [] d are there within = absurd are
join-value words width low block zero byte rest (first ∷ bytes) (kid ∷ kids) d are there within =
    let unit = 256 ^ width in
    let same : byte ≡ first = sym (same_Some first byte there) in
    ap (λ b. value_of ((block + b) * unit + rest) (join unit block (first ∷ bytes) (kid ∷ kids))) same
    ∙ value-before ((block + first) * unit + rest) (shift ((block + first) * unit) kid.pairs) (join unit block bytes kids) (join_low words width block first rest bytes kids are.1 are.3 within)
    ∙ value-shift ((block + first) * unit) rest kid.pairs
join-value words width low block (suc at) byte rest (first ∷ bytes) (kid ∷ kids) d are there within =
    let unit = 256 ^ width in
    let later = byte-from words width (first + 1) at byte bytes kids are.3 there in
    value-behind ((block + byte) * unit + rest) (shift ((block + first) * unit) kid.pairs) (join unit block bytes kids) (shift_high words width block first byte rest kid are.2 (omega arith))
    ∙ join-value words width (first + 1) block at byte rest bytes kids d are.3 there within

-- A key whose byte no child has.
pub join-absent : (words width low block byte rest : ℕ) (bytes : List ℕ) (kids : List Tree) → AreChildren words width low bytes kids → IsFalse (has bytes byte) → byte < 256 → rest < 256 ^ width
    → value_of ((block + byte) * 256 ^ width + rest) (join (256 ^ width) block bytes kids) ≡ None
join-absent words width low block byte rest [] kids are absent small within = refl
join-absent words width low block byte rest (first ∷ bytes) [] are absent small within = refl
join-absent words width low block byte rest (first ∷ bytes) (kid ∷ kids) are absent small within =
    let unit = 256 ^ width in
    let key = (block + byte) * unit + rest in
    ⊎_elim
    (λ same. let never : IsFalse (true || has bytes byte) = subst (λ b. IsFalse (b || has bytes byte)) (eq-eqb first byte same) absent in cc)
    (λ apart.
    let differ : first ≡ byte → ⊥ = λ e. ⊎_elim (λ less. omega arith) (λ more. omega arith) apart in
    let others : IsFalse (has bytes byte) = subst (λ b. IsFalse (b || has bytes byte)) (ne_eqb first byte differ) absent in
    value-behind key (shift ((block + first) * unit) kid.pairs) (join unit block bytes kids)
    (⊎_elim
    (λ less. shift_high words width block first byte rest kid are.2 less)
    (λ more. shift_low words width block byte first rest kid are.2 more within)
    apart)
    ∙ join-absent words width (first + 1) block byte rest bytes kids are.3 others small within)
    (cases_order first byte)

-- Another value of a key of a child.
pub join-written : (words width low block at byte rest value : ℕ) (bytes : List ℕ) (kids : List Tree) (d : Tree) → AreChildren words width low bytes kids →
    slice_get bytes at ≡ Some byte → rest < 256 ^ width
    → join (256 ^ width) block bytes (set kids at (with_value (get_or kids at d) rest value)) ≡ written ((block + byte) * 256 ^ width + rest) value (join (256 ^ width) block bytes kids)
join-written words width low block at byte rest value [] kids d are there within = cc
join-written words width low block at byte rest value (first ∷ bytes) [] d are there within = absurd are
join-written words width low block zero byte rest value (first ∷ bytes) (kid ∷ kids) d are there within =
    let unit = 256 ^ width in
    let same : first ≡ byte = same_Some first byte there in
    let key = (block + first) * unit + rest in
    let behind = join unit block bytes kids in
    (λ t. sym (written-shift ((block + first) * unit) rest value kid.pairs) t ++ sym (written-none key value behind (join_low words width block first rest bytes kids are.1 are.3 within)) t)
    ∙ sym (written-append key value (shift ((block + first) * unit) kid.pairs) behind)
    ∙ ap (λ b. written ((block + b) * unit + rest) value (join unit block (first ∷ bytes) (kid ∷ kids))) same
join-written words width low block (suc at) byte rest value (first ∷ bytes) (kid ∷ kids) d are there within =
    let unit = 256 ^ width in
    let later = byte-from words width (first + 1) at byte bytes kids are.3 there in
    let key = (block + byte) * unit + rest in
    let front = shift ((block + first) * unit) kid.pairs in
    (λ t. sym (written-none key value front (shift_high words width block first byte rest kid are.2 (omega arith))) t ++
    join-written words width (first + 1) block at byte rest value bytes kids d are.3 there within t)
    ∙ sym (written-append key value front (join unit block bytes kids))

pub children-written : (words width low at rest value : ℕ) (bytes : List ℕ) (kids : List Tree) (d : Tree) → words ≡ 1 → AreChildren words width low bytes kids
    → AreChildren words width low bytes (set kids at (with_value (get_or kids at d) rest value))
children-written words width low at rest value [] [] d one are = tt
children-written words width low at rest value [] (kid ∷ kids) d one are = absurd are
children-written words width low at rest value (byte ∷ bytes) [] d one are = absurd are
children-written words width low zero rest value (byte ∷ bytes) (kid ∷ kids) d one are = (are.0, are.1, written-child words width rest value kid one are.2, are.3)
children-written words width low (suc at) rest value (byte ∷ bytes) (kid ∷ kids) d one are = (are.0, are.1, are.2, children-written words width (byte + 1) at rest value bytes kids d one are.3)

pub forms-written : (at rest value : ℕ) (kids : List Tree) (d : Tree) → forms_in (set kids at (with_value (get_or kids at d) rest value)) ≡ forms_in kids
forms-written at rest value [] d = refl
forms-written zero rest value (kid ∷ kids) d = refl
forms-written (suc at) rest value (kid ∷ kids) d = ap (λ rest. kid.form ++ rest) (forms-written at rest value kids d)

-- A child for each byte.
pub children-there : (words width low at byte : ℕ) (bytes : List ℕ) (kids : List Tree) → AreChildren words width low bytes kids → slice_get bytes at ≡ Some byte → at < length kids
children-there words width low at byte [] kids are there = cc
children-there words width low at byte (first ∷ bytes) [] are there = absurd are
children-there words width low zero byte (first ∷ bytes) (kid ∷ kids) are there = omega arith
children-there words width low (suc at) byte (first ∷ bytes) (kid ∷ kids) are there = let rest = children-there words width (first + 1) at byte bytes kids are.3 there in omega arith

pub child-there : (words width low at byte : ℕ) (bytes : List ℕ) (kids : List Tree) (d : Tree) → AreChildren words width low bytes kids → slice_get bytes at ≡ Some byte →
    IsChild words width (get_or kids at d)
child-there words width low at byte [] kids d are there = cc
child-there words width low at byte (first ∷ bytes) [] d are there = absurd are
child-there words width low zero byte (first ∷ bytes) (kid ∷ kids) d are there = are.2
child-there words width low (suc at) byte (first ∷ bytes) (kid ∷ kids) d are there = child-there words width (first + 1) at byte bytes kids d are.3 there
