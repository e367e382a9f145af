-- How many keys share their leading bytes with a key.
use Rattle.std.proofs.Common.{◌≡◌, ◌≢◌, ℕ, zero, suc, ◌+◌, ◌-◌, ◌*◌, ◌/◌, ◌%◌, ◌^◌, ◌<◌, ◌≤◌, true, false, cond, eqb, Some, List, [], ◌∷◌, ◌++◌, length, slice_get, sym, refl, ap, ◌∙◌, ⊎_elim, arith}
use Rattle.std.proofs.Math.Nat.{add-mul, mul_assoc, div-eq_of_lt}
use Rattle.std.proofs.lemmas.Nat.{pow-add, div-mul-add, div-add-mod', mod_below, le-div, div_below}
use Rattle.std.proofs.lemmas.Bool.{eq-eqb, ne_eqb}
use Rattle.std.proofs.lemmas.Bool.Decides.{eqb_tells}
use Rattle.std.proofs.lemmas.Option.{same_Some}
use Rattle.judy_leaf.specs.KeyLists.{shift}
use Rattle.judy_node.specs.Trees.{Pairs, Tree, IsMap, join, AreChildren}
use Rattle.judy_change.specs.Removals.{sharing, Has33}
use Rattle.judy_model.proofs.lemmas.orders.ByteLemmas.{unit_pos}
use Rattle.judy_node.proofs.Maps.{join-map}
use Rattle.judy_change.proofs.KidChanges.{part-map, part_end, part_before, byte_above}

pub sharing-append : (unit key : ℕ) (one other : Pairs) → sharing unit key (one ++ other) ≡ sharing unit key one + sharing unit key other
sharing-append unit key [] other = omega arith
sharing-append unit key (pair ∷ one) other = let rest = sharing-append unit key one other in omega arith

-- One pair more.
sharing-same : (unit key : ℕ) (pair : ℕ × ℕ) (pairs : Pairs) → pair.0 / unit ≡ key / unit → sharing unit key (pair ∷ pairs) ≡ 1 + sharing unit key pairs
sharing-same unit key pair pairs same = ap (λ b. cond b 1 0 + sharing unit key pairs) (eq-eqb (pair.0 / unit) (key / unit) same)

sharing-apart : (unit key : ℕ) (pair : ℕ × ℕ) (pairs : Pairs) → pair.0 / unit ≢ key / unit → sharing unit key (pair ∷ pairs) ≡ 0 + sharing unit key pairs
sharing-apart unit key pair pairs apart = ap (λ b. cond b 1 0 + sharing unit key pairs) (ne_eqb (pair.0 / unit) (key / unit) apart)

-- Keys of a whole width share nothing less.
pub sharing-all : (words low unit key : ℕ) (pairs : Pairs) → key < unit → IsMap words low unit pairs → sharing unit key pairs ≡ length pairs
sharing-all words low unit key [] below map = refl
sharing-all words low unit key (pair ∷ pairs) below map =
    let first = sharing-same unit key pair pairs (div-eq_of_lt map.1 ∙ sym (div-eq_of_lt below)) in
    let rest = sharing-all words (pair.0 + 1) unit key pairs below map.3 in
    omega arith

-- Keys above those that share, and below them.
sharing-below : (words low top unit part key : ℕ) (pairs : Pairs) → 0 < unit → part * unit ≤ low → key < part * unit → IsMap words low top pairs → sharing unit key pairs ≡ 0
sharing-below words low top unit part key [] some above below map = refl
sharing-below words low top unit part key (pair ∷ pairs) some above below map =
    let first = map.0 in
    let here : part ≤ pair.0 / unit = le-div part pair.0 unit some (omega arith) in
    let there : key / unit < part = div_below key unit part some below in
    let none = sharing-apart unit key pair pairs (λ same. omega arith) in
    let rest = sharing-below words (pair.0 + 1) top unit part key pairs some (omega arith) below map.3 in
    omega arith

sharing-above : (words low top unit part key : ℕ) (pairs : Pairs) → 0 < unit → top ≤ part * unit → part * unit ≤ key → IsMap words low top pairs → sharing unit key pairs ≡ 0
sharing-above words low top unit part key [] some above below map = refl
sharing-above words low top unit part key (pair ∷ pairs) some above below map =
    let last = map.1 in
    let here : pair.0 / unit < part = div_below pair.0 unit part some (omega arith) in
    let there : part ≤ key / unit = le-div part key unit some below in
    let none = sharing-apart unit key pair pairs (λ same. omega arith) in
    let rest = sharing-above words (pair.0 + 1) top unit part key pairs some above below map.3 in
    omega arith

-- Keys that are moved by whole parts.
div_moved : (unit parts number : ℕ) → 0 < unit → (parts * unit + number) / unit ≡ parts + number / unit
div_moved unit parts number some =
    let split = div-add-mod' number unit in
    let sum = add-mul parts (number / unit) unit in
    let whole : parts * unit + number ≡ (parts + number / unit) * unit + number % unit = omega arith in
    ap (λ n. n / unit) whole ∙ div-mul-add (parts + number / unit) unit (number % unit) (mod_below number unit some)

pub sharing-shift : (unit parts by key : ℕ) (pairs : Pairs) → 0 < unit → by ≡ parts * unit → sharing unit (by + key) (shift by pairs) ≡ sharing unit key pairs
sharing-shift unit parts by key [] some is = refl
sharing-shift unit parts by key (pair ∷ pairs) some is =
    let here = ap (λ n. (n + pair.0) / unit) is ∙ div_moved unit parts pair.0 some in
    let there = ap (λ n. (n + key) / unit) is ∙ div_moved unit parts key some in
    let rest = sharing-shift unit parts by key pairs some is in
    ⊎_elim
    (λ (h : (eqb (pair.0 / unit) (key / unit) ≡ true) × (pair.0 / unit ≡ key / unit)).
    let one = sharing-same unit (by + key) (by + pair.0, pair.1) (shift by pairs) (omega arith) in
    let other = sharing-same unit key pair pairs h.1 in
    omega arith)
    (λ (h : (eqb (pair.0 / unit) (key / unit) ≡ false) × (pair.0 / unit ≢ key / unit)).
    let one = sharing-apart unit (by + key) (by + pair.0, pair.1) (shift by pairs) (λ (same : (by + pair.0) / unit ≡ (by + key) / unit). h.1 (omega arith)) in
    let other = sharing-apart unit key pair pairs h.1 in
    omega arith)
    (eqb_tells (pair.0 / unit) (key / unit))

-- ---- in a branch

-- The parts of a branch's children are made of whole smaller parts.
module _ (words width block rest bytes_low : ℕ) (rest_is : rest < 256 ^ width) (fewer : bytes_low ≤ width) where
  abbrev small : ℕ
  small = 256 ^ bytes_low

  whole : (n : ℕ) → n * 256 ^ width ≡ n * 256 ^ (width - bytes_low) * small
  whole n =
      ap (λ w. n * 256 ^ w) (let e : width ≡ width - bytes_low + bytes_low = omega arith in e)
      ∙ ap (λ u. n * u) (pow-add 256 (width - bytes_low) bytes_low)
      ∙ sym (mul_assoc n (256 ^ (width - bytes_low)) small)

  -- Only the keys of the child share with one of its keys.
  pub sharing-join : (low at byte : ℕ) (bytes : List ℕ) (kids : List Tree) (kid : Tree) → AreChildren words width low bytes kids → slice_get bytes at ≡ Some byte → slice_get kids at ≡ Some kid
      → sharing small ((block + byte) * 256 ^ width + rest) (join (256 ^ width) block bytes kids) ≡ sharing small rest kid.pairs
  sharing-join low at byte [] kids kid are there is = cc
  sharing-join low at byte (other ∷ bytes) [] kid are there is = absurd are
  sharing-join low zero byte (first ∷ bytes) (other ∷ kids) kid are there is =
      let same = same_Some first byte there in
      let start = (block + first) * 256 ^ width in
      let key = start + rest in
      let some = unit_pos bytes_low in
      let end = part_end (256 ^ width) block first (first + 1) refl in
      let part = (block + (first + 1)) * 256 ^ (width - bytes_low) in
      let edge = whole (block + (first + 1)) in
      let behind = sharing-below words ((block + (first + 1)) * 256 ^ width) ((block + 256) * 256 ^ width) small part key (join (256 ^ width) block bytes kids) some (omega arith) (omega arith)
      (join-map words width (first + 1) block bytes kids (let small_byte = are.1 in omega arith) are.3) in
      let here = sharing-shift small ((block + first) * 256 ^ (width - bytes_low)) start rest other.pairs some (whole (block + first)) in
      let both = sharing-append small key (shift start other.pairs) (join (256 ^ width) block bytes kids) in
      ap (λ b. sharing small ((block + b) * 256 ^ width + rest) (shift start other.pairs ++ join (256 ^ width) block bytes kids)) (sym same)
      ∙ (let e : sharing small key (shift start other.pairs ++ join (256 ^ width) block bytes kids) ≡ sharing small rest other.pairs = omega arith in e)
      ∙ ap (λ k. sharing small rest k.pairs) (same_Some other kid is)
  sharing-join low (suc at) byte (first ∷ bytes) (other ∷ kids) kid are there is =
      let above = byte_above words width (first + 1) at byte bytes kids are.3 there in
      let start = (block + first) * 256 ^ width in
      let key = (block + byte) * 256 ^ width + rest in
      let some = unit_pos bytes_low in
      let next = part_before (256 ^ width) block first byte (omega arith) in
      let part = (block + byte) * 256 ^ (width - bytes_low) in
      let edge = whole (block + byte) in
      let before = sharing-above words start (start + 256 ^ width) small part key (shift start other.pairs) some (omega arith) (omega arith) (part-map words width start other are.2) in
      let both = sharing-append small key (shift start other.pairs) (join (256 ^ width) block bytes kids) in
      let deeper = sharing-join (first + 1) at byte bytes kids kid are.3 there is in
      omega arith

-- A node on the way of a child's key has as many keys in the branch.
pub has-33 : (words width block rest total at byte : ℕ) (bytes : List ℕ) (kids : List Tree) (kid : Tree) → rest < 256 ^ width → width ≤ total → AreChildren words width 0 bytes kids
    → slice_get bytes at ≡ Some byte → slice_get kids at ≡ Some kid → Has33 width kid.pairs rest → Has33 total (join (256 ^ width) block bytes kids) ((block + byte) * 256 ^ width + rest)
has-33 words width block rest total at byte bytes kids kid rest_is wider are there is has = record {
  bytes = has.bytes;
  within = let within = has.within in omega arith;
  count = sharing-join words width block rest has.bytes rest_is has.within 0 at byte bytes kids kid are there is ∙ has.count;
}

-- A node of 33 keys itself.
pub all-33 : (words width key : ℕ) (pairs : Pairs) → key < 256 ^ width → IsMap words 0 (256 ^ width) pairs → length pairs ≡ 33 → Has33 width pairs key
all-33 words width key pairs below map many = record { bytes = width; within = omega arith; count = sharing-all words 0 (256 ^ width) key pairs below map ∙ many }
