-- A branch with a child changed, put in or taken out: its children in three parts, those before a byte, that of the byte, and
-- those behind it.
use Rattle.std.proofs.Common.{◌≡◌, ℕ, zero, suc, ◌+◌, ◌*◌, ◌^◌, ◌<◌, ◌≤◌, ◌||◌, ⊎_elim, false, List, [], ◌∷◌, ◌++◌, length, take, drop, Some, slice_get, sym, refl, ap, ◌∙◌, subst}
use Rattle.std.proofs.Common.{arith, true≢false, cond, filter, ne_eqb, is_lt}
use Rattle.std.proofs.Math.Nat.{add-mul}
use Rattle.std.proofs.lemmas.Nat.{mul-le}
use Rattle.std.proofs.lemmas.Bool.{cases_order, eq-eqb}
use Rattle.std.proofs.lemmas.List.{append_assoc}
use Rattle.judy_model.specs.Keys.{word_order}
use Rattle.judy_model.specs.Forms.{loose_in}
use Rattle.judy_model.specs.Shapes.{AllBelow}
use Rattle.judy_model.proofs.lemmas.forms.FormLemmas.{loose_in-append}
use Rattle.judy_bits.specs.ByteSets.{has, rank}
use Rattle.judy_bits.proofs.SetLemmas.{is_below, not_below}
use Rattle.judy_leaf.specs.KeyLists.{keys_of, with_pair, shift}
use Rattle.judy_node.specs.Trees.{Pairs, Tree, IsMap, join, forms_in, IsChild, AreChildren}
use Rattle.judy_node.proofs.Maps.{map-wider, map-shift, map-append, children-length, join-map}
use Rattle.judy_change.proofs.PairPlaces.{has-middle, with_pair-middle}

-- ---- the parts

-- The children with bytes below a byte, and those with bytes above it.
pub record AreAround (words width low : ℕ) (front rest : List ℕ) (before behind : List Tree) (byte : ℕ) : Type 0 where
  pub least : low ≤ byte
  pub small : byte < 256
  pub first : AreChildren words width low front before
  pub below : AllBelow byte front
  pub last : AreChildren words width (byte + 1) rest behind

-- The child of the byte between them.
pub children-with : (words width low : ℕ) (front rest : List ℕ) (before behind : List Tree) (byte : ℕ) (kid : Tree) → AreAround words width low front rest before behind byte → IsChild words width kid
    → AreChildren words width low (front ++ byte ∷ rest) (before ++ kid ∷ behind)
children-with words width low [] rest [] behind byte kid around is = (around.least, around.small, is, around.last)
children-with words width low [] rest (k ∷ before) behind byte kid around is = absurd around.first
children-with words width low (b ∷ front) rest [] behind byte kid around is = absurd around.first
children-with words width low (b ∷ front) rest (k ∷ before) behind byte kid around is =
    let are = around.first in
    let less = around.below in
    let here = less.0 in (
      are.0,
      are.1,
      are.2,
      children-with words width (b + 1) front rest before behind byte kid (record { least = omega arith; small = around.small; first = are.3; below = less.1; last = around.last }) is,
    )

-- A child at a place.
pub record IsAt (words width low : ℕ) (bytes : List ℕ) (kids : List Tree) (at byte : ℕ) (kid : Tree) : Type 0 where
  pub around : AreAround words width low (take at bytes) (drop (suc at) bytes) (take at kids) (drop (suc at) kids) byte
  pub is : IsChild words width kid
  pub bytes_are : bytes ≡ take at bytes ++ byte ∷ drop (suc at) bytes
  pub kids_are : kids ≡ take at kids ++ kid ∷ drop (suc at) kids

pub child-at : (words width low : ℕ) (bytes : List ℕ) (kids : List Tree) (at byte : ℕ) (kid : Tree) → AreChildren words width low bytes kids → slice_get bytes at ≡ Some byte →
    slice_get kids at ≡ Some kid
    → IsAt words width low bytes kids at byte kid
child-at words width low [] kids at byte kid are here there = cc
child-at words width low (b ∷ bytes) [] at byte kid are here there = cc
child-at words width low (b ∷ bytes) (k ∷ kids) zero byte kid are here there =
    let same : b ≡ byte = cc in
    let is : k ≡ kid = cc in
    record {
      around = record {
        least = subst (λ n. low ≤ n) same are.0;
        small = subst (λ n. n < 256) same are.1;
        first = tt;
        below = tt;
        last = subst (λ n. AreChildren words width (n + 1) bytes kids) same are.3;
      };
      is = subst (IsChild words width) is are.2;
      bytes_are = ap (λ n. n ∷ bytes) same;
      kids_are = ap (λ n. n ∷ kids) is;
    }
child-at words width low (b ∷ bytes) (k ∷ kids) (suc at) byte kid are here there =
    let rest = child-at words width (b + 1) bytes kids at byte kid are.3 here there in
    let from = rest.around.least in
    let first = are.0 in
    record {
      around = record { least = omega arith; small = rest.around.small; first = (are.0, are.1, are.2, rest.around.first); below = (omega arith, rest.around.below); last = rest.around.last };
      is = rest.is;
      bytes_are = ap (λ bs. b ∷ bs) rest.bytes_are;
      kids_are = ap (λ ks. k ∷ ks) rest.kids_are;
    }

-- The place of a byte that has no child.
none-above : (words width low byte : ℕ) (bytes : List ℕ) (kids : List Tree) → AreChildren words width low bytes kids → byte < low → rank bytes byte ≡ 0
none-above words width low byte [] kids are below = refl
none-above words width low byte (b ∷ bytes) [] are below = absurd are
none-above words width low byte (b ∷ bytes) (k ∷ kids) are below =
    let first = are.0 in
    ap (λ t. length (cond t (b ∷ filter (λ member. is_lt (word_order member byte)) bytes) (filter (λ member. is_lt (word_order member byte)) bytes))) (not_below b byte (omega arith))
    ∙ none-above words width (b + 1) byte bytes kids are.3 (omega arith)

pub child-gap : (words width low : ℕ) (bytes : List ℕ) (kids : List Tree) (byte : ℕ) → AreChildren words width low bytes kids → has bytes byte ≡ false → low ≤ byte → byte < 256
    → AreAround words width low (take (rank bytes byte) bytes) (drop (rank bytes byte) bytes) (take (rank bytes byte) kids) (drop (rank bytes byte) kids) byte
child-gap words width low [] [] byte are absent from small = record { least = from; small = small; first = tt; below = tt; last = tt }
child-gap words width low [] (k ∷ kids) byte are absent from small = absurd are
child-gap words width low (b ∷ bytes) [] byte are absent from small = absurd are
child-gap words width low (b ∷ bytes) (k ∷ kids) byte are absent from small = ⊎_elim
    (λ (same : b ≡ byte). absurd (true≢false (sym (ap (λ t. t || has bytes byte) (eq-eqb b byte same)) ∙ absent)))
    (λ apart. ⊎_elim
    (λ (less : b < byte).
    let count : rank (b ∷ bytes) byte ≡ suc (rank bytes byte) = ap (λ t. length (cond t (b ∷ filter (λ member. is_lt (word_order member byte)) bytes)
    (filter (λ member. is_lt (word_order member byte)) bytes))) (is_below b byte less) in
    let later : has bytes byte ≡ false = ap (λ t. t || has bytes byte) (sym (ne_eqb b byte (λ e. omega arith))) ∙ absent in
    let rest = child-gap words width (b + 1) bytes kids byte are.3 later (omega arith) small in
    subst (λ n. AreAround words width low (take n (b ∷ bytes)) (drop n (b ∷ bytes)) (take n (k ∷ kids)) (drop n (k ∷ kids)) byte) (sym count)
    (record { least = from; small = small; first = (are.0, are.1, are.2, rest.first); below = (less, rest.below); last = rest.last }))
    (λ (more : byte < b).
    let none : rank (b ∷ bytes) byte ≡ 0 = none-above words width (byte + 1) byte (b ∷ bytes) (k ∷ kids) (omega arith, are.1, are.2, are.3) (omega arith) in
    subst (λ n. AreAround words width low (take n (b ∷ bytes)) (drop n (b ∷ bytes)) (take n (k ∷ kids)) (drop n (k ∷ kids)) byte) (sym none)
    (record { least = from; small = small; first = tt; below = tt; last = (omega arith, are.1, are.2, are.3) }))
    apart)
    (cases_order b byte)

-- ---- the pairs of the parts

pub join-append : (unit block : ℕ) (front rest : List ℕ) (before behind : List Tree) → length front ≡ length before
    → join unit block (front ++ rest) (before ++ behind) ≡ join unit block front before ++ join unit block rest behind
join-append unit block [] rest [] behind long = refl
join-append unit block [] rest (k ∷ before) behind long = let never : ⊥ = omega arith in absurd never
join-append unit block (b ∷ front) rest [] behind long = let never : ⊥ = omega arith in absurd never
join-append unit block (b ∷ front) rest (k ∷ before) behind long =
    ap (λ ps. shift ((block + b) * unit) k.pairs ++ ps) (join-append unit block front rest before behind (omega arith))
    ∙ sym (append_assoc (shift ((block + b) * unit) k.pairs) (join unit block front before) (join unit block rest behind))

-- The pairs of children with bytes below one lie below its start.
join-below : (words width low block top : ℕ) (bytes : List ℕ) (kids : List Tree) → low ≤ top → AreChildren words width low bytes kids → AllBelow top bytes
    → IsMap words ((block + low) * 256 ^ width) ((block + top) * 256 ^ width) (join (256 ^ width) block bytes kids)
join-below words width low block top [] [] from are below = tt
join-below words width low block top [] (kid ∷ kids) from are below = absurd are
join-below words width low block top (byte ∷ bytes) [] from are below = absurd are
join-below words width low block top (byte ∷ bytes) (kid ∷ kids) from are below =
    let first = are.0 in
    let last = below.0 in
    let unit = 256 ^ width in
    let start = (block + byte) * unit in
    let next = (block + (byte + 1)) * unit in
    let step : next ≡ start + unit = ap (λ n. n * unit) (let e : block + (byte + 1) ≡ block + byte + 1 = omega arith in e) ∙ add-mul (block + byte) 1 unit ∙
    (let e : start + 1 * unit ≡ start + unit = omega arith in e) in
    let lower : (block + low) * unit ≤ start = mul-le (block + low) unit (block + byte) unit (omega arith) (omega arith) in
    let upper : next ≤ (block + top) * unit = mul-le (block + (byte + 1)) unit (block + top) unit (omega arith) (omega arith) in
    map-append words ((block + low) * unit) next ((block + top) * unit) (shift start kid.pairs) (join unit block bytes kids) (omega arith) upper
    (map-wider words (start + 0) (start + unit) ((block + low) * unit) next (shift start kid.pairs) (omega arith) (omega arith) (map-shift words 0 unit start kid.pairs are.2.map))
    (join-below words width (byte + 1) block top bytes kids (omega arith) are.3 below.1)

module _ (words width block : ℕ) (front rest : List ℕ) (before behind : List Tree) (byte : ℕ) (around : AreAround words width 0 front rest before behind byte) where
  abbrev unit : ℕ
  unit = 256 ^ width

  abbrev start : ℕ
  start = (block + byte) * unit

  abbrev lower : Pairs
  lower = join unit block front before

  abbrev upper : Pairs
  upper = join unit block rest behind

  lower-map : IsMap words (block * unit) start lower
  lower-map = subst (λ n. IsMap words (n * unit) start lower) (let e : block + 0 ≡ block = omega arith in e) (join-below words width 0 block byte front before (omega arith) around.first around.below)

  upper-map : IsMap words (start + unit) ((block + 256) * unit) upper
  upper-map =
      let small = around.small in
      let step : (block + (byte + 1)) * unit ≡ start + unit = ap (λ n. n * unit) (let e : block + (byte + 1) ≡ block + byte + 1 = omega arith in e) ∙
      add-mul (block + byte) 1 unit ∙ (let e : start + 1 * unit ≡ start + unit = omega arith in e) in
      subst (λ n. IsMap words n ((block + 256) * unit) upper) step (join-map words width (byte + 1) block rest behind (omega arith) around.last)

  -- All pairs with those of the byte's child, and without them.
  pub join-with : (kid : Tree) → join unit block (front ++ byte ∷ rest) (before ++ kid ∷ behind) ≡ lower ++ (shift start kid.pairs ++ upper)
  join-with kid = join-append unit block front (byte ∷ rest) before (kid ∷ behind) (sym (children-length words width 0 front before around.first))

  pub join-without : join unit block (front ++ rest) (before ++ behind) ≡ lower ++ upper
  join-without = join-append unit block front rest before behind (sym (children-length words width 0 front before around.first))

  -- A key of the byte's child, `middle` being the child's pairs.
  module _ (key : ℕ) (fits : key < unit) (middle : Pairs) where
    pub has-child : has (keys_of (lower ++ (shift start middle ++ upper))) (start + key) ≡ has (keys_of middle) key
    has-child = has-middle words (block * unit) ((block + 256) * unit) start unit lower upper lower-map upper-map key fits middle

    pub with_pair-child : (value : ℕ) → with_pair (start + key) value (lower ++ (shift start middle ++ upper)) ≡ lower ++ (shift start (with_pair key value middle) ++ upper)
    with_pair-child value = with_pair-middle words (block * unit) ((block + 256) * unit) start unit lower upper lower-map upper-map key fits middle value

-- ---- the forms of the parts

pub loose-append : (before behind : List Tree) → loose_in (forms_in (before ++ behind)) ≡ loose_in (forms_in before) + loose_in (forms_in behind)
loose-append [] behind = omega arith
loose-append (kid ∷ before) behind =
    let both = loose_in-append kid.form (forms_in (before ++ behind)) in
    let one = loose_in-append kid.form (forms_in before) in
    let rest = loose-append before behind in
    omega arith

pub loose-with : (before behind : List Tree) (kid : Tree) → loose_in (forms_in (before ++ kid ∷ behind)) ≡ loose_in (forms_in before) + loose_in kid.form + loose_in (forms_in behind)
loose-with before behind kid =
    let all = loose-append before (kid ∷ behind) in
    let one = loose_in-append kid.form (forms_in behind) in
    omega arith
