-- Pairs by ascending keys: bounds, shifts, what stands one behind the other, and the pairs of children.
use Rattle.std.proofs.Common.{◌≡◌, ℕ, suc, ◌+◌, ◌*◌, ◌^◌, ◌≤◌, List, [], ◌∷◌, ◌++◌, length, refl, ap, ◌∙◌, arith}
use Rattle.std.proofs.Math.Nat.{add-mul}
use Rattle.std.proofs.lemmas.Nat.{mul-le}
use Rattle.judy_model.specs.Forms.{raise}
use Rattle.judy_model.specs.Shapes.{AllBelow}
use Rattle.judy_leaf.specs.KeyLists.{keys_of, shift}
use Rattle.judy_node.specs.Trees.{Pairs, Tree, IsMap, join, AreChildren}

pub map-wider : (words low top less more : ℕ) (pairs : Pairs) → less ≤ low → top ≤ more → IsMap words low top pairs → IsMap words less more pairs
map-wider words low top less more [] below above map = tt
map-wider words low top less more (pair ∷ pairs) below above map =
    let first = map.0 in
    let last = map.1 in
    (omega arith, omega arith, map.2, map-wider words (pair.0 + 1) top (pair.0 + 1) more pairs (omega arith) above map.3)

pub map-shift : (words low top by : ℕ) (pairs : Pairs) → IsMap words low top pairs → IsMap words (by + low) (by + top) (shift by pairs)
map-shift words low top by [] map = tt
map-shift words low top by (pair ∷ pairs) map =
    let first = map.0 in
    let last = map.1 in (
      omega arith,
      omega arith,
      map.2,
      map-wider words (by + (pair.0 + 1)) (by + top) (by + pair.0 + 1) (by + top) (shift by pairs) (omega arith) (omega arith) (map-shift words (pair.0 + 1) top by pairs map.3),
    )

pub map-append : (words low middle top : ℕ) (one other : Pairs) → low ≤ middle → middle ≤ top → IsMap words low middle one → IsMap words middle top other → IsMap words low top (one ++ other)
map-append words low middle top [] other below above first second = map-wider words middle top low top other below (omega arith) second
map-append words low middle top (pair ∷ one) other below above first second =
    let here = first.1 in
    (first.0, omega arith, first.2, map-append words (pair.0 + 1) middle top one other (omega arith) above first.3 second)

pub length-shift : (by : ℕ) (pairs : Pairs) → length (shift by pairs) ≡ length pairs
length-shift by [] = refl
length-shift by (pair ∷ pairs) = ap suc (length-shift by pairs)

pub shift-append : (by : ℕ) (one other : Pairs) → shift by (one ++ other) ≡ shift by one ++ shift by other
shift-append by [] other = refl
shift-append by (pair ∷ one) other = ap (λ rest. (by + pair.0, pair.1) ∷ rest) (shift-append by one other)

pub shift-shift : (by more both : ℕ) (pairs : Pairs) → both ≡ by + more → shift by (shift more pairs) ≡ shift both pairs
shift-shift by more both [] e = refl
shift-shift by more both (pair ∷ pairs) e = let here : by + (more + pair.0) ≡ both + pair.0 = omega arith in λ t. (here t, pair.1) ∷ shift-shift by more both pairs e t

pub shift-zero : (by : ℕ) (pairs : Pairs) → by ≡ 0 → shift by pairs ≡ pairs
shift-zero by [] e = refl
shift-zero by (pair ∷ pairs) e = let here : by + pair.0 ≡ pair.0 = omega arith in λ t. (here t, pair.1) ∷ shift-zero by pairs e t

-- ---- keys

pub keys_of-shift : (by : ℕ) (pairs : Pairs) → keys_of (shift by pairs) ≡ raise by (keys_of pairs)
keys_of-shift by [] = refl
keys_of-shift by (pair ∷ pairs) = ap (λ rest. (by + pair.0) ∷ rest) (keys_of-shift by pairs)

pub keys_of-append : (one other : Pairs) → keys_of (one ++ other) ≡ keys_of one ++ keys_of other
keys_of-append [] other = refl
keys_of-append (pair ∷ one) other = ap (λ rest. pair.0 ∷ rest) (keys_of-append one other)

pub length-keys_of : (pairs : Pairs) → length (keys_of pairs) ≡ length pairs
length-keys_of [] = refl
length-keys_of (pair ∷ pairs) = ap suc (length-keys_of pairs)

pub map-AllBelow : (words low top : ℕ) (pairs : Pairs) → IsMap words low top pairs → AllBelow top (keys_of pairs)
map-AllBelow words low top [] map = tt
map-AllBelow words low top (pair ∷ pairs) map = (map.1, map-AllBelow words (pair.0 + 1) top pairs map.3)

-- A map has no more keys than there are from its first bound to its second.
pub map-length : (words low top : ℕ) (pairs : Pairs) → low ≤ top → IsMap words low top pairs → low + length pairs ≤ top
map-length words low top [] below map = omega arith
map-length words low top (pair ∷ pairs) below map =
    let first = map.0 in
    let last = map.1 in
    let rest = map-length words (pair.0 + 1) top pairs (omega arith) map.3 in
    omega arith

-- ---- children

pub children-lower : (words width low less : ℕ) (bytes : List ℕ) (kids : List Tree) → less ≤ low → AreChildren words width low bytes kids → AreChildren words width less bytes kids
children-lower words width low less [] [] below are = tt
children-lower words width low less [] (kid ∷ kids) below are = absurd are
children-lower words width low less (byte ∷ bytes) [] below are = absurd are
children-lower words width low less (byte ∷ bytes) (kid ∷ kids) below are = let first = are.0 in (omega arith, are.1, are.2, are.3)

pub children-length : (words width low : ℕ) (bytes : List ℕ) (kids : List Tree) → AreChildren words width low bytes kids → length kids ≡ length bytes
children-length words width low [] [] are = refl
children-length words width low [] (kid ∷ kids) are = absurd are
children-length words width low (byte ∷ bytes) [] are = absurd are
children-length words width low (byte ∷ bytes) (kid ∷ kids) are = ap suc (children-length words width (byte + 1) bytes kids are.3)

-- There are at most 256 of them.
pub children-few : (words width low : ℕ) (bytes : List ℕ) (kids : List Tree) → low ≤ 256 → AreChildren words width low bytes kids → low + length bytes ≤ 256
children-few words width low [] [] below are = omega arith
children-few words width low [] (kid ∷ kids) below are = absurd are
children-few words width low (byte ∷ bytes) [] below are = absurd are
children-few words width low (byte ∷ bytes) (kid ∷ kids) below are =
    let first = are.0 in
    let last = are.1 in
    let rest = children-few words width (byte + 1) bytes kids (omega arith) are.3 in
    omega arith

-- The pairs of children are a map.
pub join-map : (words width low block : ℕ) (bytes : List ℕ) (kids : List Tree) → low ≤ 256 → AreChildren words width low bytes kids
    → IsMap words ((block + low) * 256 ^ width) ((block + 256) * 256 ^ width) (join (256 ^ width) block bytes kids)
join-map words width low block [] [] below are = tt
join-map words width low block [] (kid ∷ kids) below are = absurd are
join-map words width low block (byte ∷ bytes) [] below are = absurd are
join-map words width low block (byte ∷ bytes) (kid ∷ kids) below are =
    let first = are.0 in
    let last = are.1 in
    let unit = 256 ^ width in
    let start = (block + byte) * unit in
    let next = (block + (byte + 1)) * unit in
    let step : next ≡ start + unit = ap (λ n. n * unit) (let e : block + (byte + 1) ≡ block + byte + 1 = omega arith in e) ∙ add-mul (block + byte) 1 unit ∙
    (let e : start + 1 * unit ≡ start + unit = omega arith in e) in
    let lower : (block + low) * unit ≤ start = mul-le (block + low) unit (block + byte) unit (omega arith) (omega arith) in
    let upper : next ≤ (block + 256) * unit = mul-le (block + (byte + 1)) unit (block + 256) unit (omega arith) (omega arith) in
    map-append words ((block + low) * unit) next ((block + 256) * unit) (shift start kid.pairs) (join unit block bytes kids) (omega arith) upper
    (map-wider words (start + 0) (start + unit) ((block + low) * unit) next (shift start kid.pairs) (omega arith) (omega arith) (map-shift words 0 unit start kid.pairs are.2.map))
    (join-map words width (byte + 1) block bytes kids (omega arith) are.3)
