-- The pairs of a branch on both sides of a child, and on both sides of a byte that no child has.
use Rattle.std.proofs.Common.{◌≡◌, ℕ, zero, suc, ◌+◌, ◌*◌, ◌^◌, ◌<◌, ◌≤◌, false, cond, ⊎_elim, List, [], ◌∷◌, ◌++◌, length, take, drop, filter, Some, slice_get, sym, refl, ap, ◌∙◌}
use Rattle.std.proofs.Common.{subst, arith, ne_eqb, eq-eqb, true≢false, ◌||◌, length-append}
use Rattle.std.proofs.Math.Nat.{add-mul}
use Rattle.std.proofs.lemmas.Nat.{mul-le}
use Rattle.std.proofs.lemmas.Bool.{cases_order}
use Rattle.std.proofs.lemmas.List.{append_assoc, append-nil}
use Rattle.std.proofs.lemmas.Option.{same_Some}
use Rattle.std.specs.Ordering.{is_lt}
use Rattle.judy_model.specs.Keys.{word_order}
use Rattle.judy_bits.specs.ByteSets.{has, rank}
use Rattle.judy_bits.proofs.SetLemmas.{is_below, not_below}
use Rattle.judy_leaf.specs.KeyLists.{shift}
use Rattle.judy_node.specs.Trees.{Pairs, Tree, IsMap, join, IsChild, AreChildren}
use Rattle.judy_node.specs.Populations.{population}
use Rattle.judy_node.proofs.Maps.{map-wider, map-shift, map-append, join-map, length-shift}

-- The pairs of the first children, so many, and of those from a place on.
abbrev pub first_of : ℕ → ℕ → List ℕ → List Tree → ℕ → Pairs
first_of unit block bytes kids place = join unit block (take place bytes) (take place kids)

abbrev pub rest_of : ℕ → ℕ → List ℕ → List Tree → ℕ → Pairs
rest_of unit block bytes kids place = join unit block (drop place bytes) (drop place kids)

-- ---- a child

pub record IsSplit (words width low block : ℕ) (bytes : List ℕ) (kids : List Tree) (byte place : ℕ) (kid : Tree) : Type 0 where
  pub low_byte : low ≤ byte
  pub high_byte : byte < 256
  pub child : IsChild words width kid
  pub same : join (256 ^ width) block bytes kids ≡ first_of (256 ^ width) block bytes kids place ++ (shift ((block + byte) * 256 ^ width) kid.pairs ++
      rest_of (256 ^ width) block bytes kids (suc place))
  pub before : IsMap words ((block + low) * 256 ^ width) ((block + byte) * 256 ^ width) (first_of (256 ^ width) block bytes kids place)
  pub after : IsMap words ((block + (byte + 1)) * 256 ^ width) ((block + 256) * 256 ^ width) (rest_of (256 ^ width) block bytes kids (suc place))

-- A byte's keys begin no later than a greater byte's.
pub units : (block less more unit : ℕ) → less ≤ more → (block + less) * unit ≤ (block + more) * unit
units block less more unit below = mul-le (block + less) unit (block + more) unit (omega arith) (omega arith)

-- The end of a byte's keys is where the next byte's begin.
pub next_unit : (block byte unit : ℕ) → (block + (byte + 1)) * unit ≡ (block + byte) * unit + unit
next_unit block byte unit =
    ap (λ n. n * unit) (let e : block + (byte + 1) ≡ block + byte + 1 = omega arith in e)
    ∙ add-mul (block + byte) 1 unit
    ∙ (let e : (block + byte) * unit + 1 * unit ≡ (block + byte) * unit + unit = omega arith in e)

-- The pairs of one child.
one_map : (words width low block byte : ℕ) (pairs : Pairs) → low ≤ byte → IsMap words 0 (256 ^ width) pairs
    → IsMap words ((block + low) * 256 ^ width) ((block + (byte + 1)) * 256 ^ width) (shift ((block + byte) * 256 ^ width) pairs)
one_map words width low block byte pairs above map =
    let unit = 256 ^ width in
    let start = (block + byte) * unit in
    let step = next_unit block byte unit in
    let lower = units block low byte unit above in
    map-wider words (start + 0) (start + unit) ((block + low) * unit) ((block + (byte + 1)) * unit) (shift start pairs) (omega arith) (omega arith) (map-shift words 0 unit start pairs map)

pub split-at : (words width low block : ℕ) (bytes : List ℕ) (kids : List Tree) (byte place : ℕ) (kid : Tree) → low ≤ 256 → AreChildren words width low bytes kids
    → slice_get bytes place ≡ Some byte → slice_get kids place ≡ Some kid → IsSplit words width low block bytes kids byte place kid
split-at words width low block [] kids byte place kid below are at there = cc
split-at words width low block (b ∷ bytes) [] byte place kid below are at there = absurd are
split-at words width low block (b ∷ bytes) (k ∷ kids) byte zero kid below are at there =
    let last = are.1 in
    subst (λ x. IsSplit words width low block (b ∷ bytes) (k ∷ kids) x 0 kid) (same_Some b byte at)
    (subst (λ x. IsSplit words width low block (b ∷ bytes) (k ∷ kids) b 0 x) (same_Some k kid there)
    (record {
      low_byte = are.0;
      high_byte = are.1;
      child = are.2;
      same = refl;
      before = tt;
      after = join-map words width (b + 1) block bytes kids (omega arith) are.3;
    }))
split-at words width low block (b ∷ bytes) (k ∷ kids) byte (suc place) kid below are at there =
    let first = are.0 in
    let last = are.1 in
    let unit = 256 ^ width in
    let start = (block + b) * unit in
    let rest = split-at words width (b + 1) block bytes kids byte place kid (omega arith) are.3 at there in
    let low_byte = rest.low_byte in
    record {
      low_byte = omega arith;
      high_byte = rest.high_byte;
      child = rest.child;
      same = ap (λ ps. shift start k.pairs ++ ps) rest.same
          ∙ sym (append_assoc (shift start k.pairs) (first_of unit block bytes kids place) (shift ((block + byte) * unit) kid.pairs ++ rest_of unit block bytes kids (suc place)));
      before = map-append words ((block + low) * unit) ((block + (b + 1)) * unit) ((block + byte) * unit) (shift start k.pairs) (first_of unit block bytes kids place)
          (units block low (b + 1) unit (omega arith)) (units block (b + 1) byte unit low_byte) (one_map words width low block b k.pairs first are.2.map) rest.before;
      after = rest.after;
    }

-- ---- a byte without a child

pub record IsGap (words width low block : ℕ) (bytes : List ℕ) (kids : List Tree) (byte place : ℕ) : Type 0 where
  pub within : place ≤ length kids
  pub same : join (256 ^ width) block bytes kids ≡ first_of (256 ^ width) block bytes kids place ++ rest_of (256 ^ width) block bytes kids place
  pub before : IsMap words ((block + low) * 256 ^ width) ((block + byte) * 256 ^ width) (first_of (256 ^ width) block bytes kids place)
  pub after : IsMap words ((block + (byte + 1)) * 256 ^ width) ((block + 256) * 256 ^ width) (rest_of (256 ^ width) block bytes kids place)

pub rank-less : (b byte : ℕ) (bytes : List ℕ) → b < byte → rank (b ∷ bytes) byte ≡ suc (rank bytes byte)
rank-less b byte bytes less = ap (λ t. length (cond t (b ∷ filter (λ member. is_lt (word_order member byte)) bytes) (filter (λ member. is_lt (word_order member byte)) bytes))) (is_below b byte less)

pub rank-more : (b byte : ℕ) (bytes : List ℕ) → byte ≤ b → rank (b ∷ bytes) byte ≡ rank bytes byte
rank-more b byte bytes more = ap (λ t. length (cond t (b ∷ filter (λ member. is_lt (word_order member byte)) bytes) (filter (λ member. is_lt (word_order member byte)) bytes))) (not_below b byte more)

rank_none : (words width low : ℕ) (bytes : List ℕ) (kids : List Tree) (byte : ℕ) → AreChildren words width low bytes kids → byte < low → rank bytes byte ≡ 0
rank_none words width low [] kids byte are below = refl
rank_none words width low (b ∷ bytes) [] byte are below = absurd are
rank_none words width low (b ∷ bytes) (k ∷ kids) byte are below =
    let first = are.0 in
    rank-more b byte bytes (omega arith) ∙ rank_none words width (b + 1) bytes kids byte are.3 (omega arith)

pub gap-at : (words width low block : ℕ) (bytes : List ℕ) (kids : List Tree) (byte : ℕ) → low ≤ 256 → byte < 256 → AreChildren words width low bytes kids
    → has bytes byte ≡ false → IsGap words width low block bytes kids byte (rank bytes byte)
gap-at words width low block [] [] byte below small are absent = record { within = omega arith; same = refl; before = tt; after = tt }
gap-at words width low block [] (k ∷ kids) byte below small are absent = absurd are
gap-at words width low block (b ∷ bytes) [] byte below small are absent = absurd are
gap-at words width low block (b ∷ bytes) (k ∷ kids) byte below small are absent =
    let first = are.0 in
    let last = are.1 in
    let unit = 256 ^ width in
    let start = (block + b) * unit in
    ⊎_elim
    (λ (same : b ≡ byte). absurd (true≢false (sym (ap (λ t. t || has bytes byte) (eq-eqb b byte same)) ∙ absent)))
    (λ apart. ⊎_elim
    (λ (less : b < byte).
    let rest = gap-at words width (b + 1) block bytes kids byte (omega arith) small are.3 (ap (λ t. t || has bytes byte)
    (sym (ne_eqb b byte (λ (e : b ≡ byte). let never : ⊥ = omega arith in never))) ∙ absent) in
    let within = rest.within in
    subst (λ place. IsGap words width low block (b ∷ bytes) (k ∷ kids) byte place) (sym (rank-less b byte bytes less))
    (record {
      within = omega arith;
      same =
          ap (λ ps. shift start k.pairs ++ ps) rest.same ∙ sym (append_assoc (shift start k.pairs) (first_of unit block bytes kids (rank bytes byte))
          (rest_of unit block bytes kids (rank bytes byte)));
      before = map-append words ((block + low) * unit) ((block + (b + 1)) * unit) ((block + byte) * unit) (shift start k.pairs) (first_of unit block bytes kids (rank bytes byte))
          (units block low (b + 1) unit (omega arith)) (units block (b + 1) byte unit (omega arith)) (one_map words width low block b k.pairs first are.2.map) rest.before;
      after = rest.after;
    }))
    (λ (more : byte < b).
    subst (λ place. IsGap words width low block (b ∷ bytes) (k ∷ kids) byte place) (sym (rank-more b byte bytes (omega arith) ∙ rank_none words width (b + 1) bytes kids byte are.3 (omega arith)))
    (record {
      within = omega arith;
      same = refl;
      before = tt;
      after = map-wider words ((block + b) * unit) ((block + 256) * unit) ((block + (byte + 1)) * unit) ((block + 256) * unit) (join unit block (b ∷ bytes) (k ∷ kids))
          (units block (byte + 1) b unit (omega arith)) (omega arith)
          (join-map words width b block (b ∷ bytes) (k ∷ kids) (omega arith) (omega arith, are.1, are.2, are.3));
    }))
    apart)
    (cases_order b byte)

-- ---- the children before a place, and from one on

-- The pairs of the first children are as many as these have.
pub first_long : (words width low unit block : ℕ) (bytes : List ℕ) (kids : List Tree) (place : ℕ) → AreChildren words width low bytes kids
    → length (first_of unit block bytes kids place) ≡ population (take place kids)
first_long words width low unit block [] [] zero are = refl
first_long words width low unit block [] [] (suc place) are = refl
first_long words width low unit block [] (k ∷ kids) place are = absurd are
first_long words width low unit block (b ∷ bytes) [] place are = absurd are
first_long words width low unit block (b ∷ bytes) (k ∷ kids) zero are = refl
first_long words width low unit block (b ∷ bytes) (k ∷ kids) (suc place) are =
    let both = length-append (shift ((block + b) * unit) k.pairs) (first_of unit block bytes kids place) in
    let here = length-shift ((block + b) * unit) k.pairs in
    let rest = first_long words width (b + 1) unit block bytes kids place are.3 in
    omega arith

-- From a place on stand the pairs of its child, and then the others.
pub rest_more : (unit block : ℕ) (bytes : List ℕ) (kids : List Tree) (byte place : ℕ) (kid : Tree) → slice_get bytes place ≡ Some byte → slice_get kids place ≡ Some kid
    → rest_of unit block bytes kids place ≡ shift ((block + byte) * unit) kid.pairs ++ rest_of unit block bytes kids (suc place)
rest_more unit block [] kids byte place kid at there = cc
rest_more unit block (b ∷ bytes) [] byte place kid at there = cc
rest_more unit block (b ∷ bytes) (k ∷ kids) byte zero kid at there = λ t. shift ((block + same_Some b byte at t) * unit) (same_Some k kid there t).pairs ++ join unit block bytes kids
rest_more unit block (b ∷ bytes) (k ∷ kids) byte (suc place) kid at there = rest_more unit block bytes kids byte place kid at there

-- Up to a place stand the pairs of the children before it, and then its child's.
pub first_more : (unit block : ℕ) (bytes : List ℕ) (kids : List Tree) (byte place : ℕ) (kid : Tree) → slice_get bytes place ≡ Some byte → slice_get kids place ≡ Some kid
    → first_of unit block bytes kids (suc place) ≡ first_of unit block bytes kids place ++ shift ((block + byte) * unit) kid.pairs
first_more unit block [] kids byte place kid at there = cc
first_more unit block (b ∷ bytes) [] byte place kid at there = cc
first_more unit block (b ∷ bytes) (k ∷ kids) byte zero kid at there =
    append-nil (shift ((block + b) * unit) k.pairs) ∙ (λ t. shift ((block + same_Some b byte at t) * unit) (same_Some k kid there t).pairs)
first_more unit block (b ∷ bytes) (k ∷ kids) byte (suc place) kid at there =
    ap (λ ps. shift ((block + b) * unit) k.pairs ++ ps) (first_more unit block bytes kids byte place kid at there)
    ∙ sym (append_assoc (shift ((block + b) * unit) k.pairs) (first_of unit block bytes kids place) (shift ((block + byte) * unit) kid.pairs))
