-- What is kept of two branches, a byte after another.
use Rattle.std.proofs.Common.{◌≡◌, ℕ, zero, suc, ◌+◌, ◌-◌, ◌*◌, ◌%◌, ◌^◌, ◌<◌, ◌≤◌, Bool, true, false, cond, ⊎_elim, List, [], ◌∷◌, ◌++◌, length}
use Rattle.std.proofs.Common.{Option, Some, None, slice_get, refl, sym, ap, ◌∙◌, subst, arith, append-nil}
use Rattle.std.proofs.Math.Nat.{pow-le-pow_right, mod-eq_of_lt}
use Rattle.std.proofs.lemmas.Bool.{cases_lt}
use Rattle.std.proofs.lemmas.Option.{same_Some, slice_get_within}
use Rattle.std.specs.Option.{option_or}
use Rattle.std.specs.List.Sorted.{IsStrictlySortedBy}
use Rattle.judy_model.specs.Forms.{branch, loose_in}
use Rattle.judy_model.specs.Keys.{word_order}
use Rattle.judy_model.proofs.lemmas.forms.FormLemmas.{loose_in-append}
use Rattle.judy_model.specs.Shapes.{AllBelow}
use Rattle.judy_model.specs.WordBytes.{number_of}
use Rattle.judy_bits.specs.ByteSets.{has, rank, place}
use Rattle.judy_bits.proofs.SetLemmas.{slice_get-rank}
use Rattle.judy_leaf.specs.KeyLists.{shift}
use Rattle.judy_node.specs.Trees.{Tree, IsTight, IsMap, IsBranch, IsChild, AreChildren, join, forms_in, branch_pairs}
use Rattle.judy_node.specs.Populations.{population}
use Rattle.judy_node.specs.Views.{IsView, IsPlace, view_form}
use Rattle.judy_node.specs.declared.child.BranchOf.{BranchOf}
use Rattle.judy_node.specs.declared.step.Step.TheVariants.{Missing}
use Rattle.judy_node.specs.declared.view.ViewOf.{ViewOf}
use Rattle.judy_node.specs.declared.view.ViewOf.TheVariants.{Branch}
use Rattle.judy_node.proofs.Counts.{length-join}
use Rattle.judy_node.proofs.Shaped.{tight-parts}
use Rattle.judy_node.proofs.Groups.{children-push, join-push, forms-push, below-push, below-wider}
use Rattle.judy_node.proofs.Maps.{map-append, map-shift, map-wider, join-map, children-length, map-length}
use Rattle.judy_query.specs.Parts.{value_of}
use Rattle.judy_query.proofs.Downs.{child_part, gap_part, blocks_within}
use Rattle.judy_query.proofs.Finds.{later, value-above, value-shift, part-value}
use Rattle.judy_query.proofs.Splits.{next_unit, units}
use Rattle.judy_combine.specs.declared.keep.Keep.{Keep}
use Rattle.judy_combine.specs.Merges.{Pairs, pick}
use Rattle.judy_combine.specs.Kept.{AreKept, IsKept, IsKeptAt, AreKeptTo, IsCountable, IsBelowTight, AreLevel, IsGap, pairs_of, width_of}
use Rattle.judy_combine.proofs.Ends.{only_left, only_right, or_none}
use Rattle.judy_combine.proofs.Finds.{find-join}

-- ---- pairs past their end

pub value-past : (words low top : ℕ) (pairs : Pairs) (key : ℕ) → top ≤ key → IsMap words low top pairs → value_of pairs key ≡ None
value-past words low top [] key above map = refl
value-past words low top (pair ∷ pairs) key above map =
    let last = map.1 in
    later key pair pairs (λ (e : key ≡ pair.0). let never : ⊥ = omega arith in never) ∙ value-past words (pair.0 + 1) top pairs key above map.3

-- The pairs of children whose bytes are below another.
pub join-below : (words width low next block : ℕ) (bytes : List ℕ) (kids : List Tree) → AreChildren words width low bytes kids → AllBelow next bytes
    → IsMap words ((block + low) * 256 ^ width) ((block + next) * 256 ^ width) (join (256 ^ width) block bytes kids)
join-below words width low next block [] [] are below = tt
join-below words width low next block [] (kid ∷ kids) are below = absurd are
join-below words width low next block (byte ∷ bytes) [] are below = absurd are
join-below words width low next block (byte ∷ bytes) (kid ∷ kids) are below =
    let unit = 256 ^ width in
    let start = (block + byte) * unit in
    let step = next_unit block byte unit in
    let lower = units block low byte unit are.0 in
    let less = below.0 in
    map-append words ((block + low) * unit) ((block + (byte + 1)) * unit) ((block + next) * unit) (shift start kid.pairs) (join unit block bytes kids)
    (units block low (byte + 1) unit (let from = are.0 in omega arith)) (units block (byte + 1) next unit (omega arith))
    (map-wider words (start + 0) (start + unit) ((block + low) * unit) ((block + (byte + 1)) * unit) (shift start kid.pairs) (omega arith) (omega arith)
    (map-shift words 0 unit start kid.pairs are.2.map))
    (join-below words width (byte + 1) next block bytes kids are.3 below.1)

-- ---- places

pub stands : (bytes : List ℕ) → IsStrictlySortedBy word_order bytes → (byte at : ℕ) → place bytes byte ≡ Some at → slice_get bytes at ≡ Some byte
stands bytes ascending byte at = elim (has bytes byte) as (λ b. has bytes byte ≡ b → cond b (Some (rank bytes byte)) None ≡ Some at → slice_get bytes at ≡ Some byte) [
  | true ↦ λ held found. ap (slice_get bytes) (sym (same_Some (rank bytes byte) at found)) ∙ slice_get-rank bytes ascending byte held
  | false ↦ λ _ never. cc
] refl

pub missing : (bytes : List ℕ) (byte : ℕ) → place bytes byte ≡ None → has bytes byte ≡ false
missing bytes byte = elim (has bytes byte) as (λ b. has bytes byte ≡ b → cond b (Some (rank bytes byte)) None ≡ None → has bytes byte ≡ false) [
  | true ↦ λ _ never. cc
  | false ↦ λ absent _. absent
] refl

-- ---- what a branch has at a key

module _ (words width : ℕ) (skipped bytes : List ℕ) (kids : List Tree) (count : ℕ) (is : IsBranch words width skipped bytes kids count) (byte rest : ℕ)
    (small : byte < 256) (inside : rest < 256 ^ width) where
  abbrev key : ℕ
  key = (number_of skipped * 256 + byte) * 256 ^ width + rest

  pub kid_value : (at : ℕ) (kid : Tree) → slice_get bytes at ≡ Some byte → slice_get kids at ≡ Some kid →
      value_of (branch_pairs width skipped bytes kids) ((number_of skipped * 256 + byte) * 256 ^ width + rest) ≡ value_of kid.pairs rest
  kid_value at kid stands there =
      part-value words (256 ^ (length skipped + 1 + width)) (branch_pairs width skipped bytes kids) (key - rest) (256 ^ width) rest key kid.pairs _ _
      (child_part words width skipped bytes kids count is key byte rest at kid (record { byte_is = small; rest_is = inside; key_is = refl }) stands there)
      (let e : key ≡ key - rest + rest = omega arith in e) inside

  pub gap_value : has bytes byte ≡ false → value_of (branch_pairs width skipped bytes kids) ((number_of skipped * 256 + byte) * 256 ^ width + rest) ≡ None
  gap_value absent =
      let unit = 256 ^ width in
      let block = number_of skipped * 256 in
      let step = next_unit block byte unit in
      let last = units block (byte + 1) 256 unit (omega arith) in
      let room = blocks_within skipped width is.parts.skipped_bytes in
      part-value words (256 ^ (length skipped + 1 + width)) (branch_pairs width skipped bytes kids) key 1 0 key [] _ _
      (gap_part words width skipped bytes kids count is key (Missing byte (rank bytes byte) rest) tt ((record { byte_is = small; rest_is = inside; key_is = refl }), absent, refl) (omega arith))
      (omega arith) (omega arith)

-- ---- the child of a byte

module _ (words width block : ℕ) (keep : Keep) (one other : Pairs) (byte : ℕ) where
  -- Both have one.
  pub at_both : (ours theirs : Pairs) (made : Option Tree)
      → ((rest : ℕ) → rest < 256 ^ width → value_of one ((block + byte) * 256 ^ width + rest) ≡ value_of ours rest)
      → ((rest : ℕ) → rest < 256 ^ width → value_of other ((block + byte) * 256 ^ width + rest) ≡ value_of theirs rest)
      → IsKept words width keep ours theirs made → IsKeptAt words width block keep one other byte made
  at_both ours theirs None in_one in_other kept = λ rest inside. (λ t. pick keep (in_one rest inside t) (in_other rest inside t)) ∙ sym (kept rest)
  at_both ours theirs (Some kid) in_one in_other kept =
      (kept.child, kept.tight, λ rest inside. kept.kept rest ∙ (λ t. pick keep (sym (in_one rest inside) t) (sym (in_other rest inside) t)))

  -- The left one alone has one.
  pub at_left : (kid : Tree) (made : Option Tree) → IsChild words width kid → IsTight kid → made ≡ cond keep.left (Some kid) None
      → ((rest : ℕ) → rest < 256 ^ width → value_of one ((block + byte) * 256 ^ width + rest) ≡ value_of kid.pairs rest)
      → ((rest : ℕ) → rest < 256 ^ width → value_of other ((block + byte) * 256 ^ width + rest) ≡ None)
      → IsKeptAt words width block keep one other byte made
  at_left kid made child tight is in_one in_other = subst (IsKeptAt words width block keep one other byte) (sym is)
      (elim keep.left as (λ b. keep.left ≡ b → IsKeptAt words width block keep one other byte (cond b (Some kid) None)) [
        | true ↦ λ wanted. (child, tight, λ rest inside. sym (found rest inside ∙ ap (λ (b : Bool). cond b (value_of kid.pairs rest) None) wanted))
        | false ↦ λ unwanted. λ rest inside. found rest inside ∙ ap (λ (b : Bool). cond b (value_of kid.pairs rest) None) unwanted
      ] refl)
    where
      found : (rest : ℕ) → rest < 256 ^ width → pick keep (value_of one ((block + byte) * 256 ^ width + rest)) (value_of other ((block + byte) * 256 ^ width + rest)) ≡
          cond keep.left (value_of kid.pairs rest) None
      found rest inside = (λ t. pick keep (in_one rest inside t) (in_other rest inside t)) ∙ only_left keep.left keep.both keep.right (value_of kid.pairs rest)

  -- The right one alone has one.
  pub at_right : (kid : Tree) (made : Option Tree) → IsChild words width kid → IsTight kid → made ≡ cond keep.right (Some kid) None
      → ((rest : ℕ) → rest < 256 ^ width → value_of one ((block + byte) * 256 ^ width + rest) ≡ None)
      → ((rest : ℕ) → rest < 256 ^ width → value_of other ((block + byte) * 256 ^ width + rest) ≡ value_of kid.pairs rest)
      → IsKeptAt words width block keep one other byte made
  at_right kid made child tight is in_one in_other = subst (IsKeptAt words width block keep one other byte) (sym is)
      (elim keep.right as (λ b. keep.right ≡ b → IsKeptAt words width block keep one other byte (cond b (Some kid) None)) [
        | true ↦ λ wanted. (child, tight, λ rest inside. sym (found rest inside ∙ ap (λ (b : Bool). cond b (value_of kid.pairs rest) None) wanted))
        | false ↦ λ unwanted. λ rest inside. found rest inside ∙ ap (λ (b : Bool). cond b (value_of kid.pairs rest) None) unwanted
      ] refl)
    where
      found : (rest : ℕ) → rest < 256 ^ width → pick keep (value_of one ((block + byte) * 256 ^ width + rest)) (value_of other ((block + byte) * 256 ^ width + rest)) ≡
          cond keep.right (value_of kid.pairs rest) None
      found rest inside = (λ t. pick keep (in_one rest inside t) (in_other rest inside t)) ∙ only_right keep.left keep.both keep.right (value_of kid.pairs rest)

  -- Neither has one.
  pub at_none : ((rest : ℕ) → rest < 256 ^ width → value_of one ((block + byte) * 256 ^ width + rest) ≡ None)
      → ((rest : ℕ) → rest < 256 ^ width → value_of other ((block + byte) * 256 ^ width + rest) ≡ None)
      → IsKeptAt words width block keep one other byte None
  at_none in_one in_other = λ rest inside. (λ t. pick keep (in_one rest inside t) (in_other rest inside t))

-- ---- one byte after another

module _ (words width block : ℕ) (keep : Keep) (one other : Pairs) where
  -- Before the first byte nothing stands.
  pub kept_none : (top : ℕ) → IsMap words ((block + 0) * 256 ^ width) top one → IsMap words ((block + 0) * 256 ^ width) top other → AreKeptTo words width block keep one other [] [] 0
  kept_none top map other_map = record {
    children = tt;
    before = tt;
    tight = refl;
    kept = λ key below. (λ t. pick keep (sym (value-above words ((block + 0) * 256 ^ width) top one key below map) t)
        (sym (value-above words ((block + 0) * 256 ^ width) top other key below other_map) t));
  }

  module _ (bytes : List ℕ) (kids : List Tree) (byte : ℕ) (small : byte < 256) (is : AreKeptTo words width block keep one other bytes kids byte) where
    -- The key lies below the byte's, or among them.
    by_byte : (key : ℕ) (P : Type 0) → key < (block + (byte + 1)) * 256 ^ width → (key < (block + byte) * 256 ^ width → P)
        → ((rest : ℕ) → rest < 256 ^ width → key ≡ (block + byte) * 256 ^ width + rest → P) → P
    by_byte key P below less there =
        let step = next_unit block byte (256 ^ width) in
        ⊎_elim less (λ (from : (block + byte) * 256 ^ width ≤ key). there (key - (block + byte) * 256 ^ width) (omega arith) (omega arith))
        (cases_lt key ((block + byte) * 256 ^ width))

    past : (key : ℕ) → (block + byte) * 256 ^ width ≤ key → value_of (join (256 ^ width) block bytes kids) key ≡ None
    past key above =
        value-past words ((block + 0) * 256 ^ width) ((block + byte) * 256 ^ width) (join (256 ^ width) block bytes kids) key above
        (join-below words width 0 byte block bytes kids is.children is.before)

    pub kept_skip : IsKeptAt words width block keep one other byte None → AreKeptTo words width block keep one other bytes kids (byte + 1)
    kept_skip none = record {
      children = is.children;
      before = below-wider byte (byte + 1) bytes (omega arith) is.before;
      tight = is.tight;
      kept = λ key below. by_byte key _ below (is.kept key) (λ rest inside same.
          past key (omega arith) ∙ sym (none rest inside) ∙ (λ t. pick keep (value_of one (sym same t)) (value_of other (sym same t))));
    }

    pub kept_more : (kid : Tree) → IsKeptAt words width block keep one other byte (Some kid) → AreKeptTo words width block keep one other (bytes ++ byte ∷ []) (kids ++ kid ∷ []) (byte + 1)
    kept_more kid made =
        let unit = 256 ^ width in
        let start = (block + byte) * unit in
        let loose = forms-push kids kid in
        let none = is.tight in
        let kid_none = made.1 in
        let joined : (key : ℕ) → value_of (join unit block (bytes ++ byte ∷ []) (kids ++ kid ∷ [])) key ≡ option_or (value_of (join unit block bytes kids) key) (value_of (shift start kid.pairs) key) =
        λ key. ap (λ (ps : Pairs). value_of ps key) (join-push words width 0 unit block bytes kids byte kid is.children) ∙ find-join key (join unit block bytes kids) (shift start kid.pairs) in
        record {
          children = children-push words width 0 bytes kids byte kid is.children (omega arith) is.before small made.0;
          before = below-push byte byte bytes (omega arith) is.before;
          tight = omega arith;
          kept = λ key below. by_byte key _ below
              (λ less. joined key
              ∙ ap (option_or (value_of (join unit block bytes kids) key)) (value-above words (start + 0) (start + unit) (shift start kid.pairs) key (omega arith)
              (map-shift words 0 unit start kid.pairs made.0.map))
              ∙ or_none (value_of (join unit block bytes kids) key)
              ∙ is.kept key less)
              (λ rest inside same. joined key
              ∙ (λ t. option_or (past key (omega arith) t) (value_of (sym (append-nil (shift start kid.pairs)) t) key))
              ∙ value-shift start rest key kid.pairs [] same refl
              ∙ made.2 rest inside
              ∙ (λ t. pick keep (value_of one (sym same t)) (value_of other (sym same t))));
        }

  -- Bytes for which nothing is kept are passed.
  pub kept_past : (bytes : List ℕ) (kids : List Tree) (from many : ℕ) → from + many ≤ 256
      → ((byte : ℕ) → from ≤ byte → byte < from + many → IsKeptAt words width block keep one other byte None)
      → AreKeptTo words width block keep one other bytes kids from → AreKeptTo words width block keep one other bytes kids (from + many)
  kept_past bytes kids from zero inside none is = subst (AreKeptTo words width block keep one other bytes kids) (let e : from ≡ from + zero = omega arith in e) is
  kept_past bytes kids from (suc many) inside none is =
      subst (AreKeptTo words width block keep one other bytes kids) (let e : from + many + 1 ≡ from + suc many = omega arith in e)
      (kept_skip bytes kids (from + many) (omega arith) (kept_past bytes kids from many (omega arith) (λ byte above before. none byte above (omega arith)) is)
      (none (from + many) (omega arith) (omega arith)))

  pub kept_as : {bytes other_bytes : List ℕ} {kids other_kids : List Tree} {next other_next : ℕ} → other_bytes ≡ bytes → other_kids ≡ kids → next ≡ other_next
      → AreKeptTo words width block keep one other bytes kids next → AreKeptTo words width block keep one other other_bytes other_kids other_next
  kept_as {bytes} {other_bytes} {kids} {other_kids} {next} {other_next} same same_kids same_next is =
      subst (λ bs. AreKeptTo words width block keep one other bs other_kids other_next) (sym same)
      (subst (λ ks. AreKeptTo words width block keep one other bytes ks other_next) (sym same_kids) (subst (AreKeptTo words width block keep one other bytes kids) same_next is))

  -- Behind the last byte nothing stands.
  pub kept_all : (bytes : List ℕ) (kids : List Tree) → IsMap words ((block + 0) * 256 ^ width) ((block + 256) * 256 ^ width) one
      → IsMap words ((block + 0) * 256 ^ width) ((block + 256) * 256 ^ width) other → AreKeptTo words width block keep one other bytes kids 256
      → AreKept keep one other (join (256 ^ width) block bytes kids)
  kept_all bytes kids map other_map is key = ⊎_elim
      (is.kept key)
      (λ (above : (block + 256) * 256 ^ width ≤ key).
      value-past words ((block + 0) * 256 ^ width) ((block + 256) * 256 ^ width) (join (256 ^ width) block bytes kids) key above (join-below words width 0 256 block bytes kids is.children is.before)
      ∙ (λ t. pick keep (sym (value-past words ((block + 0) * 256 ^ width) ((block + 256) * 256 ^ width) one key above map) t)
      (sym (value-past words ((block + 0) * 256 ^ width) ((block + 256) * 256 ^ width) other key above other_map) t)))
      (cases_lt key ((block + 256) * 256 ^ width))

-- ---- the branch

-- So many bytes have fewer words than a word tells.
pub countable_low : (words width : ℕ) (keep : Keep) (one other : Pairs) → width ≤ 7 → IsCountable words width keep one other
countable_low words width keep one other low = λ pairs map kept.
    let long = map-length words 0 (256 ^ width) pairs (omega arith) map in
    let most : 256 ^ width ≤ 256 ^ 7 = pow-le-pow_right {n = 256} (omega arith) low in
    omega arith

module _ (words width : ℕ) (skipped obytes : List ℕ) (okids : List Tree) (ocount : ℕ) (own : IsBranch words width skipped obytes okids ocount)
    (keep : Keep) (one other : Pairs) (bytes : List ℕ) (kids : List Tree)
    (is : AreKeptTo words width (number_of skipped * 256) keep one other bytes kids 256) where
  pub made_none : length kids ≡ 0 → AreKept keep one other (branch_pairs width skipped bytes kids) → AreKept keep one other []
  made_none none kept =
      let long = children-length words width 0 bytes kids is.children in
      subst (AreKept keep one other) (ap (λ (bs : List ℕ). join (256 ^ width) (number_of skipped * 256) bs kids) (nothing bytes (omega arith))) kept
    where
      nothing : (bs : List ℕ) → length bs ≡ 0 → bs ≡ []
      nothing [] none = refl
      nothing (b ∷ bs) none = let never : ⊥ = omega arith in absurd never

  pub made_branch : (count : ℕ) → count ≡ population kids % 2 ^ 64 → 0 < length kids → AreKept keep one other (branch_pairs width skipped bytes kids)
      → IsCountable words (length skipped + 1 + width) keep one other → IsBranch words width skipped bytes kids count
  made_branch count told some kept few =
      let unit = 256 ^ width in
      let block = number_of skipped * 256 in
      let long = length-join words width 0 unit block bytes kids is.children in
      let as_many = children-length words width 0 bytes kids is.children in
      let map = map-wider words ((block + 0) * unit) ((block + 256) * unit) 0 (256 ^ (length skipped + 1 + width)) (join unit block bytes kids) (omega arith)
      (blocks_within skipped width own.parts.skipped_bytes) (join-below words width 0 256 block bytes kids is.children is.before) in
      let within = few (join unit block bytes kids) map kept in
      record {
        parts = record {
          some_width = own.parts.some_width;
          within = own.parts.within;
          skipped_bytes = own.parts.skipped_bytes;
          children = is.children;
          counted = told ∙ mod-eq_of_lt (let e : population kids < 2 ^ 64 = omega arith in e) ∙ sym long;
        };
        holds = omega arith;
      }

-- ---- a child of a tight branch

pub kid_tight : (kids : List Tree) (at : ℕ) (kid : Tree) → slice_get kids at ≡ Some kid → loose_in (forms_in kids) ≡ 0 → IsTight kid
kid_tight [] at kid there tight = cc
kid_tight (first ∷ kids) zero kid there tight =
    let sum = loose_in-append first.form (forms_in kids) in
    ap (λ (k : Tree). loose_in k.form) (sym (same_Some first kid there)) ∙ (let e : loose_in first.form ≡ 0 = omega arith in e)
kid_tight (first ∷ kids) (suc at) kid there tight =
    let sum = loose_in-append first.form (forms_in kids) in
    kid_tight kids at kid there (omega arith)

-- ---- what is entered

-- A tight node that shows a branch.
pub shown_below : {V : _} (words width : ℕ) (tree : Tree) (view : ViewOf V) (b : _) → view ≡ Branch b → IsView words width tree view → IsTight tree → IsBelowTight words b.now
shown_below words width tree view b same is tight =
    let form : tree.form ≡ branch b.now.skip b.now.bytes b.now.population ∷ forms_in b.now.children.items = is.form ∙ ap (view_form width) same in
    let parts = tight-parts (branch b.now.skip b.now.bytes b.now.population) (forms_in b.now.children.items) (ap loose_in (sym form) ∙ tight) in
    let place = subst (IsPlace words width) same is.place in
    record { level = place.1; tight = parts.1 }

pub shown_width : {V : _} (words width : ℕ) (tree : Tree) (view : ViewOf V) (b : _) → view ≡ Branch b → IsView words width tree view → width_of b.now ≡ width
shown_width words width tree view b same is = let place = subst (IsPlace words width) same is.place in place.0

-- ---- two branches on one level

pub other_as : (words width other_width number other_number : ℕ) (pairs : Pairs) → width ≡ other_width → number ≡ other_number
    → IsMap words ((other_number * 256 + 0) * 256 ^ other_width) ((other_number * 256 + 256) * 256 ^ other_width) pairs
    → IsMap words ((number * 256 + 0) * 256 ^ width) ((number * 256 + 256) * 256 ^ width) pairs
other_as words width other_width number other_number pairs wide same map =
    subst (λ w. IsMap words ((number * 256 + 0) * 256 ^ w) ((number * 256 + 256) * 256 ^ w) pairs) (sym wide)
    (subst (λ n. IsMap words ((n * 256 + 0) * 256 ^ other_width) ((n * 256 + 256) * 256 ^ other_width) pairs) (sym same) map)

pub value_as : (width other_width number other_number byte rest : ℕ) (pairs : Pairs) (o : Option ℕ) → width ≡ other_width → number ≡ other_number
    → value_of pairs ((other_number * 256 + byte) * 256 ^ other_width + rest) ≡ o → value_of pairs ((number * 256 + byte) * 256 ^ width + rest) ≡ o
value_as width other_width number other_number byte rest pairs o wide same is = (λ t. value_of pairs ((same t * 256 + byte) * 256 ^ wide t + rest)) ∙ is

-- Where a byte's child stands there is one.
pub place_inside : (words width low : ℕ) (bytes : List ℕ) (kids : List Tree) (at byte : ℕ) → AreChildren words width low bytes kids → slice_get bytes at ≡ Some byte → at < length kids
place_inside words width low bytes kids at byte are stands =
    let long = children-length words width low bytes kids are in
    let within = slice_get_within bytes at byte stands in
    omega arith

module _ {V : _} (words : ℕ) (keep : Keep) (one other : BranchOf V) (below : IsBelowTight words one) (other_below : IsBelowTight words other) (level : AreLevel one other) where
  pub kept_start : AreKeptTo words one.width (number_of one.skip * 256) keep (pairs_of one) (pairs_of other) [] [] 0
  kept_start =
      kept_none words one.width (number_of one.skip * 256) keep (pairs_of one) (pairs_of other) ((number_of one.skip * 256 + 256) * 256 ^ one.width)
      (join-map words one.width 0 (number_of one.skip * 256) one.bytes one.children.items (omega arith) below.level.parts.children)
      (other_as words one.width other.width (number_of one.skip) (number_of other.skip) (pairs_of other) level.width level.number
      (join-map words other.width 0 (number_of other.skip * 256) other.bytes other.children.items (omega arith) other_below.level.parts.children))

  -- Nothing is kept for a byte for which neither has a child.
  pub kept_nowhere : (byte : ℕ) → byte < 256 → has one.bytes byte ≡ false → has other.bytes byte ≡ false
      → IsKeptAt words one.width (number_of one.skip * 256) keep (pairs_of one) (pairs_of other) byte None
  kept_nowhere byte small absent other_absent =
      at_none words one.width (number_of one.skip * 256) keep (pairs_of one) (pairs_of other) byte
      (λ rest low. gap_value words one.width one.skip one.bytes one.children.items one.population below.level byte rest small low absent)
      (λ rest low. value_as one.width other.width (number_of one.skip) (number_of other.skip) byte rest (pairs_of other) None level.width level.number
      (gap_value words other.width other.skip other.bytes other.children.items other.population other_below.level byte rest small (subst (λ w. rest < 256 ^ w) level.width low) other_absent))

  pub kept_gap : (bytes : List ℕ) (kids : List Tree) (from to : ℕ) → from ≤ to → to ≤ 256 → IsGap one.bytes other.bytes from to
      → AreKeptTo words one.width (number_of one.skip * 256) keep (pairs_of one) (pairs_of other) bytes kids from
      → AreKeptTo words one.width (number_of one.skip * 256) keep (pairs_of one) (pairs_of other) bytes kids to
  kept_gap bytes kids from to up inside gap is =
      subst (AreKeptTo words one.width (number_of one.skip * 256) keep (pairs_of one) (pairs_of other) bytes kids) (let e : from + (to - from) ≡ to = omega arith in e)
      (kept_past words one.width (number_of one.skip * 256) keep (pairs_of one) (pairs_of other) bytes kids from (to - from) (omega arith)
      (λ byte above before. let none = gap byte above (omega arith) in kept_nowhere byte (omega arith) none.0 none.1) is)

  pub kept_end : (bytes : List ℕ) (kids : List Tree) → AreKeptTo words one.width (number_of one.skip * 256) keep (pairs_of one) (pairs_of other) bytes kids 256
      → AreKept keep (pairs_of one) (pairs_of other) (branch_pairs one.width one.skip bytes kids)
  kept_end bytes kids is =
      kept_all words one.width (number_of one.skip * 256) keep (pairs_of one) (pairs_of other) bytes kids
      (join-map words one.width 0 (number_of one.skip * 256) one.bytes one.children.items (omega arith) below.level.parts.children)
      (other_as words one.width other.width (number_of one.skip) (number_of other.skip) (pairs_of other) level.width level.number
      (join-map words other.width 0 (number_of other.skip * 256) other.bytes other.children.items (omega arith) other_below.level.parts.children))
      is
