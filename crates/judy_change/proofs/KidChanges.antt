-- The children of a branch, one of which loses a key or goes.
use Rattle.std.proofs.Common.{◌≡◌, ℕ, zero, suc, ◌+◌, ◌*◌, ◌^◌, ◌<◌, ◌≤◌, Some, None, List, [], ◌∷◌, ◌++◌, set, slice_get, sym, refl, ap, ◌∙◌, subst, arith}
use Rattle.std.specs.List.{remove}
use Rattle.std.proofs.Math.Nat.{add-mul}
use Rattle.std.proofs.lemmas.Nat.{mul-le}
use Rattle.std.proofs.lemmas.Option.{same_Some}
use Rattle.judy_model.specs.Forms.{loose_in}
use Rattle.judy_model.proofs.lemmas.forms.FormLemmas.{loose_in-append}
use Rattle.judy_leaf.specs.KeyLists.{shift}
use Rattle.judy_node.specs.Trees.{Tree, IsMap, IsTight, join, forms_in, IsChild, AreChildren}
use Rattle.judy_node.proofs.Maps.{map-wider, map-shift, join-map, children-lower}
use Rattle.judy_change.specs.Removals.{value_in, without}
use Rattle.judy_change.proofs.Without.{value-below, value-above, value-front, value-back, value-shift, without-absent, without-append, without-shift}

-- ---- what children keep

pub children-set : (words width low at : ℕ) (bytes : List ℕ) (kids : List Tree) (kid : Tree) → AreChildren words width low bytes kids → IsChild words width kid →
    AreChildren words width low bytes (set kids at kid)
children-set words width low at [] [] kid are is = tt
children-set words width low at [] (other ∷ kids) kid are is = absurd are
children-set words width low at (byte ∷ bytes) [] kid are is = absurd are
children-set words width low zero (byte ∷ bytes) (other ∷ kids) kid are is = (are.0, are.1, is, are.3)
children-set words width low (suc at) (byte ∷ bytes) (other ∷ kids) kid are is = (are.0, are.1, are.2, children-set words width (byte + 1) at bytes kids kid are.3 is)

pub children-drop : (words width low at : ℕ) (bytes : List ℕ) (kids : List Tree) → AreChildren words width low bytes kids → AreChildren words width low (remove bytes at) (remove kids at)
children-drop words width low zero [] [] are = tt
children-drop words width low (suc at) [] [] are = tt
children-drop words width low at [] (kid ∷ kids) are = absurd are
children-drop words width low at (byte ∷ bytes) [] are = absurd are
children-drop words width low zero (byte ∷ bytes) (kid ∷ kids) are = let first = are.0 in children-lower words width (byte + 1) low bytes kids (omega arith) are.3
children-drop words width low (suc at) (byte ∷ bytes) (kid ∷ kids) are = (are.0, are.1, are.2, children-drop words width (byte + 1) at bytes kids are.3)

pub child-at : (words width low at : ℕ) (bytes : List ℕ) (kids : List Tree) (kid : Tree) → AreChildren words width low bytes kids → slice_get kids at ≡ Some kid → IsChild words width kid
child-at words width low at [] [] kid are there = cc
child-at words width low at [] (other ∷ kids) kid are there = absurd are
child-at words width low at (byte ∷ bytes) [] kid are there = absurd are
child-at words width low zero (byte ∷ bytes) (other ∷ kids) kid are there = subst (IsChild words width) (same_Some other kid there) are.2
child-at words width low (suc at) (byte ∷ bytes) (other ∷ kids) kid are there = child-at words width (byte + 1) at bytes kids kid are.3 there

-- ---- loose nodes

pub loose-at : (at : ℕ) (kids : List Tree) (kid : Tree) → loose_in (forms_in kids) ≡ 0 → slice_get kids at ≡ Some kid → IsTight kid
loose-at at [] kid tight there = cc
loose-at zero (other ∷ kids) kid tight there =
    let sum = loose_in-append other.form (forms_in kids) in
    ap (λ k. loose_in k.form) (sym (same_Some other kid there)) ∙ (let e : loose_in other.form ≡ 0 = omega arith in e)
loose-at (suc at) (other ∷ kids) kid tight there =
    let sum = loose_in-append other.form (forms_in kids) in
    loose-at at kids kid (omega arith) there

pub loose-set : (at : ℕ) (kids : List Tree) (kid : Tree) → loose_in (forms_in kids) ≡ 0 → IsTight kid → loose_in (forms_in (set kids at kid)) ≡ 0
loose-set at [] kid tight is = refl
loose-set zero (other ∷ kids) kid tight is =
    let sum = loose_in-append other.form (forms_in kids) in
    let new = loose_in-append kid.form (forms_in kids) in
    omega arith
loose-set (suc at) (other ∷ kids) kid tight is =
    let sum = loose_in-append other.form (forms_in kids) in
    let new = loose_in-append other.form (forms_in (set kids at kid)) in
    let rest = loose-set at kids kid (omega arith) is in
    omega arith

pub loose-drop : (at : ℕ) (kids : List Tree) → loose_in (forms_in kids) ≡ 0 → loose_in (forms_in (remove kids at)) ≡ 0
loose-drop zero [] tight = refl
loose-drop (suc at) [] tight = refl
loose-drop zero (other ∷ kids) tight = let sum = loose_in-append other.form (forms_in kids) in omega arith
loose-drop (suc at) (other ∷ kids) tight =
    let sum = loose_in-append other.form (forms_in kids) in
    let new = loose_in-append other.form (forms_in (remove kids at)) in
    let rest = loose-drop at kids (omega arith) in
    omega arith

-- ---- where a key stands

-- A key of a byte lies in that byte's part.
pub part_end : (unit block byte next : ℕ) → next ≡ byte + 1 → (block + next) * unit ≡ (block + byte) * unit + unit
part_end unit block byte next is =
    ap (λ n. n * unit) (let e : block + next ≡ block + byte + 1 = omega arith in e) ∙ add-mul (block + byte) 1 unit ∙
    (let e : (block + byte) * unit + 1 * unit ≡ (block + byte) * unit + unit = omega arith in e)

-- The parts before a byte's end where its own begins.
pub part_before : (unit block low byte : ℕ) → low < byte → (block + low) * unit + unit ≤ (block + byte) * unit
part_before unit block low byte below =
    subst (λ n. n ≤ (block + byte) * unit) (part_end unit block low (low + 1) refl) (mul-le (block + (low + 1)) unit (block + byte) unit (omega arith) (omega arith))

pub byte_above : (words width low at byte : ℕ) (bytes : List ℕ) (kids : List Tree) → AreChildren words width low bytes kids → slice_get bytes at ≡ Some byte → low ≤ byte
byte_above words width low at byte [] kids are there = cc
byte_above words width low at byte (other ∷ bytes) [] are there = absurd are
byte_above words width low zero byte (other ∷ bytes) (kid ∷ kids) are there = let same = same_Some other byte there in let first = are.0 in omega arith
byte_above words width low (suc at) byte (other ∷ bytes) (kid ∷ kids) are there =
    let first = are.0 in
    let rest = byte_above words width (other + 1) at byte bytes kids are.3 there in
    omega arith

-- A child's pairs where they stand in the branch.
pub part-map : (words width start : ℕ) (kid : Tree) → IsChild words width kid → IsMap words start (start + 256 ^ width) (shift start kid.pairs)
part-map words width start kid is =
    map-wider words (start + 0) (start + 256 ^ width) start (start + 256 ^ width) (shift start kid.pairs) (omega arith) (omega arith) (map-shift words 0 (256 ^ width) start kid.pairs is.map)

module _ (words width block rest : ℕ) (rest_is : rest < 256 ^ width) where
  -- The parts behind a byte don't have its keys.
  none_behind : (byte : ℕ) (bytes : List ℕ) (kids : List Tree) → byte < 256 → AreChildren words width (byte + 1) bytes kids →
      value_in (join (256 ^ width) block bytes kids) ((block + byte) * 256 ^ width + rest) ≡ None
  none_behind byte bytes kids small are =
      let end = part_end (256 ^ width) block byte (byte + 1) refl in
      value-below words ((block + (byte + 1)) * 256 ^ width) ((block + 256) * 256 ^ width) ((block + byte) * 256 ^ width + rest) (join (256 ^ width) block bytes kids) (omega arith)
      (join-map words width (byte + 1) block bytes kids (omega arith) are)

  -- Nor does one before it.
  pub none_before : (low byte : ℕ) (kid : Tree) → low < byte → IsChild words width kid → value_in (shift ((block + low) * 256 ^ width) kid.pairs) ((block + byte) * 256 ^ width + rest) ≡ None
  none_before low byte kid below is =
      let start = part_before (256 ^ width) block low byte below in
      value-above words ((block + low) * 256 ^ width) ((block + low) * 256 ^ width + 256 ^ width) ((block + byte) * 256 ^ width + rest) (shift ((block + low) * 256 ^ width) kid.pairs) (omega arith)
      (part-map words width ((block + low) * 256 ^ width) kid is)

  pub value-join : (low at byte : ℕ) (bytes : List ℕ) (kids : List Tree) (kid : Tree) → AreChildren words width low bytes kids → slice_get bytes at ≡ Some byte → slice_get kids at ≡ Some kid
      → value_in (join (256 ^ width) block bytes kids) ((block + byte) * 256 ^ width + rest) ≡ value_in kid.pairs rest
  value-join low at byte [] kids kid are there is = cc
  value-join low at byte (other ∷ bytes) [] kid are there is = absurd are
  value-join low zero byte (first ∷ bytes) (other ∷ kids) kid are there is =
      let same = same_Some first byte there in
      let start = (block + first) * 256 ^ width in
      ap (λ b. value_in (shift start other.pairs ++ join (256 ^ width) block bytes kids) ((block + b) * 256 ^ width + rest)) (sym same)
      ∙ value-back (shift start other.pairs) (join (256 ^ width) block bytes kids) (start + rest) (none_behind first bytes kids are.1 are.3)
      ∙ value-shift start rest other.pairs ∙ ap (λ k. value_in k.pairs rest) (same_Some other kid is)
  value-join low (suc at) byte (first ∷ bytes) (other ∷ kids) kid are there is =
      let above = byte_above words width (first + 1) at byte bytes kids are.3 there in
      value-front (shift ((block + first) * 256 ^ width) other.pairs) (join (256 ^ width) block bytes kids) ((block + byte) * 256 ^ width + rest) (none_before first byte other (omega arith) are.2)
      ∙ value-join (first + 1) at byte bytes kids kid are.3 there is

  -- The child loses the key.
  pub join-without : (low at byte : ℕ) (bytes : List ℕ) (kids : List Tree) (kid new : Tree) → AreChildren words width low bytes kids → slice_get bytes at ≡ Some byte → slice_get kids at ≡ Some kid
      → new.pairs ≡ without rest kid.pairs
      → join (256 ^ width) block bytes (set kids at new) ≡ without ((block + byte) * 256 ^ width + rest) (join (256 ^ width) block bytes kids)
  join-without low at byte [] kids kid new are there is gone = cc
  join-without low at byte (other ∷ bytes) [] kid new are there is gone = absurd are
  join-without low zero byte (first ∷ bytes) (other ∷ kids) kid new are there is gone =
      let same = same_Some first byte there in
      let start = (block + first) * 256 ^ width in
      let none = without-absent (join (256 ^ width) block bytes kids) (start + rest) (none_behind first bytes kids are.1 are.3) in
      (λ t. shift start (gone t) ++ join (256 ^ width) block bytes kids)
      ∙ (λ t. shift start (without rest (sym (same_Some other kid is) t).pairs) ++ sym none t)
      ∙ ap (λ front. front ++ without (start + rest) (join (256 ^ width) block bytes kids)) (sym (without-shift start rest other.pairs))
      ∙ sym (without-append (start + rest) (shift start other.pairs) (join (256 ^ width) block bytes kids))
      ∙ ap (λ b. without ((block + b) * 256 ^ width + rest) (shift start other.pairs ++ join (256 ^ width) block bytes kids)) same
  join-without low (suc at) byte (first ∷ bytes) (other ∷ kids) kid new are there is gone =
      let above = byte_above words width (first + 1) at byte bytes kids are.3 there in
      let key = (block + byte) * 256 ^ width + rest in
      let front = shift ((block + first) * 256 ^ width) other.pairs in
      ap (λ back. front ++ back) (join-without (first + 1) at byte bytes kids kid new are.3 there is gone)
      ∙ ap (λ f. f ++ without key (join (256 ^ width) block bytes kids)) (sym (without-absent front key (none_before first byte other (omega arith) are.2)))
      ∙ sym (without-append key front (join (256 ^ width) block bytes kids))

  -- The child had the key alone, and goes with its byte.
  pub join-drop : (low at byte : ℕ) (bytes : List ℕ) (kids : List Tree) (kid : Tree) → AreChildren words width low bytes kids → slice_get bytes at ≡ Some byte → slice_get kids at ≡ Some kid
      → without rest kid.pairs ≡ []
      → join (256 ^ width) block (remove bytes at) (remove kids at) ≡ without ((block + byte) * 256 ^ width + rest) (join (256 ^ width) block bytes kids)
  join-drop low at byte [] kids kid are there is gone = cc
  join-drop low at byte (other ∷ bytes) [] kid are there is gone = absurd are
  join-drop low zero byte (first ∷ bytes) (other ∷ kids) kid are there is gone =
      let same = same_Some first byte there in
      let start = (block + first) * 256 ^ width in
      let none = without-absent (join (256 ^ width) block bytes kids) (start + rest) (none_behind first bytes kids are.1 are.3) in
      let all : without (start + rest) (shift start other.pairs) ≡ [] = without-shift start rest other.pairs ∙ ap (λ k. shift start (without rest k.pairs)) (same_Some other kid is) ∙
      ap (shift start) gone in
      sym none
      ∙ ap (λ front. front ++ without (start + rest) (join (256 ^ width) block bytes kids)) (sym all)
      ∙ sym (without-append (start + rest) (shift start other.pairs) (join (256 ^ width) block bytes kids))
      ∙ ap (λ b. without ((block + b) * 256 ^ width + rest) (shift start other.pairs ++ join (256 ^ width) block bytes kids)) same
  join-drop low (suc at) byte (first ∷ bytes) (other ∷ kids) kid are there is gone =
      let above = byte_above words width (first + 1) at byte bytes kids are.3 there in
      let key = (block + byte) * 256 ^ width + rest in
      let front = shift ((block + first) * 256 ^ width) other.pairs in
      ap (λ back. front ++ back) (join-drop (first + 1) at byte bytes kids kid are.3 there is gone)
      ∙ ap (λ f. f ++ without key (join (256 ^ width) block bytes kids)) (sym (without-absent front key (none_before first byte other (omega arith) are.2)))
      ∙ sym (without-append key front (join (256 ^ width) block bytes kids))
