-- A branch one of whose children has one key more, or that has one child more.
use Rattle.std.proofs.Common.{◌≡◌, ℕ, suc, ◌+◌, ◌*◌, ◌^◌, ◌<◌, ◌≤◌, false, List, [], ◌∷◌, ◌++◌, length, take, drop, set, Some, slice_get, sym, ap, ◌∙◌, subst, arith, length-append}
use Rattle.std.specs.List.{insert}
use Rattle.std.proofs.lemmas.List.{set_split, take-append-drop}
use Rattle.std.proofs.lemmas.List.Edits.{length-insert}
use Rattle.std.proofs.lemmas.Option.{slice_get_within}
use Rattle.judy_model.specs.WordBytes.{number_of}
use Rattle.judy_model.specs.Forms.{branch, loose_in}
use Rattle.judy_model.proofs.lemmas.forms.FormLemmas.{branch_tight, tight-head}
use Rattle.judy_bits.specs.ByteSets.{has, rank}
use Rattle.judy_leaf.specs.KeyLists.{keys_of, with_pair, shift}
use Rattle.judy_leaf.proofs.LeafLists.{rank_within}
use Rattle.judy_node.specs.Trees.{Pairs, Tree, IsTight, join, forms_in, IsChild, AreChildren, branch_pairs, IsBranch, branch_tree}
use Rattle.judy_node.proofs.Maps.{length-shift}
use Rattle.judy_node.proofs.Shaped.{branch_needed, tight-parts}
use Rattle.judy_change.specs.Inserted.{IsAdded}
use Rattle.judy_change.proofs.PairPlaces.{length-with_pair}
use Rattle.judy_change.proofs.ChildSets.{AreAround, IsAt, child-at, child-gap, children-with, join-with, join-without, has-child, with_pair-child, loose-append, loose-with}

-- The parts of a branch together, so that they may be replaced by equal ones at once.
pub record BranchParts : Type 0 where
  pub width : ℕ
  pub skip : List ℕ
  pub bytes : List ℕ
  pub kids : List Tree
  pub count : ℕ

abbrev pub AreOf : ℕ → BranchParts → Type 0
AreOf words parts = IsBranch words parts.width parts.skip parts.bytes parts.kids parts.count

-- A branch with more keys than one that wasn't loose, and no fewer children, isn't loose either.
pub grown_tight : (skipped bytes more : List ℕ) (count added : ℕ) (old new : List Tree) → IsTight (branch_tree 0 skipped bytes old count) → length bytes ≤ length more →
    loose_in (forms_in new) ≤ loose_in (forms_in old)
    → loose_in (branch skipped more (count + added) ∷ forms_in new) ≡ 0
grown_tight skipped bytes more count added old new tight longer less =
    let parts = tight-parts (branch skipped bytes count) (forms_in old) tight in
    let needed = branch_needed skipped bytes count parts.0 in
    let many = needed.0 in
    let two = needed.1 in
    let none = parts.1 in
    tight-head (branch skipped more (count + added)) (forms_in new) (branch_tight skipped more (count + added) (omega arith) (omega arith)) (omega arith)

module _ (words width : ℕ) (skipped bytes : List ℕ) (kids : List Tree) (count : ℕ) (is : IsBranch words width skipped bytes kids count) (byte rest : ℕ) (fits : rest < 256 ^ width) where
  abbrev unit : ℕ
  unit = 256 ^ width

  abbrev block : ℕ
  block = number_of skipped * 256

  abbrev old : Tree
  old = branch_tree width skipped bytes kids count

  -- The key of the branch that a child's key is.
  abbrev key : ℕ
  key = (block + byte) * unit + rest

  -- ---- a child changed

  module _ (at : ℕ) (kid : Tree) (here : slice_get bytes at ≡ Some byte) (there : slice_get kids at ≡ Some kid) where
    pub cut : IsAt words width 0 bytes kids at byte kid
    cut = child-at words width 0 bytes kids at byte kid is.parts.children here there

    abbrev front : List ℕ
    front = take at bytes

    abbrev back : List ℕ
    back = drop (suc at) bytes

    abbrev before : List Tree
    before = take at kids

    abbrev behind : List Tree
    behind = drop (suc at) kids

    abbrev with_middle : Pairs → Pairs
    with_middle middle = join unit block front before ++ (shift ((block + byte) * unit) middle ++ join unit block back behind)

    pub old_pairs : branch_pairs width skipped bytes kids ≡ with_middle kid.pairs
    old_pairs = (λ t. join unit block (cut.bytes_are t) (cut.kids_are t)) ∙ join-with words width block front back before behind byte cut.around kid

    pub set_is : (new : Tree) → set kids at new ≡ before ++ new ∷ behind
    set_is new = set_split kids at new (slice_get_within kids at kid there)

    pub new_pairs : (new : Tree) → branch_pairs width skipped bytes (set kids at new) ≡ with_middle new.pairs
    new_pairs new = (λ t. join unit block (cut.bytes_are t) (set_is new t)) ∙ join-with words width block front back before behind byte cut.around new

    -- The branch has the key where the child has what is left of it.
    pub child_has : has (keys_of old.pairs) key ≡ has (keys_of kid.pairs) rest
    child_has = ap (λ ps. has (keys_of ps) key) old_pairs ∙ has-child words width block front back before behind byte cut.around rest fits kid.pairs

    pub child_is : IsChild words width kid
    child_is = cut.is

    -- No child has more keys than the branch.
    pub child_fewer : length kid.pairs ≤ count
    child_fewer =
        let counted = is.parts.counted in
        let all = ap length old_pairs in
        let parts = length-append (join unit block front before) (shift ((block + byte) * unit) kid.pairs ++ join unit block back behind) in
        let more = length-append (shift ((block + byte) * unit) kid.pairs) (join unit block back behind) in
        let same = length-shift ((block + byte) * unit) kid.pairs in
        omega arith

    module _ (value : ℕ) (new : Tree) (added : IsAdded rest value kid new) where
      more_pairs : branch_pairs width skipped bytes (set kids at new) ≡ with_pair key value old.pairs
      more_pairs =
          new_pairs new ∙ ap with_middle added.pairs
          ∙ sym (with_pair-child words width block front back before behind byte cut.around rest fits kid.pairs value)
          ∙ ap (with_pair key value) (sym old_pairs)

      more_loose : IsTight old → loose_in (forms_in (set kids at new)) ≤ loose_in (forms_in kids)
      more_loose tight =
          let parts = tight-parts (branch skipped bytes count) (forms_in kids) tight in
          let none = parts.1 in
          let was = ap (λ ks. loose_in (forms_in ks)) cut.kids_are in
          let were = loose-with before behind kid in
          let now = ap (λ ks. loose_in (forms_in ks)) (set_is new) in
          let are = loose-with before behind new in
          let here = added.tight (omega arith) in
          omega arith

      pub child_branch : IsChild words width new → IsBranch words width skipped bytes (set kids at new) (count + 1)
      child_branch child = record {
        parts = record {
          some_width = is.parts.some_width;
          within = is.parts.within;
          skipped_bytes = is.parts.skipped_bytes;
          children =
              subst (λ ks. AreChildren words width 0 bytes ks) (sym (set_is new)) (subst (λ bs. AreChildren words width 0 bs (before ++ new ∷ behind))
              (sym cut.bytes_are) (children-with words width 0 front back before behind byte new cut.around child));
          counted = let one = length-with_pair key value old.pairs in let all = ap length more_pairs in let counted = is.parts.counted in omega arith;
        };
        holds = is.holds;
      }

      pub child_added : IsAdded key value old (branch_tree width skipped bytes (set kids at new) (count + 1))
      child_added = record {
        absent = child_has ∙ added.absent;
        pairs = more_pairs;
        tight = λ tight. grown_tight skipped bytes bytes count 1 kids (set kids at new) tight (omega arith) (more_loose tight);
      }

  -- ---- a child put in

  module _ (small : byte < 256) (absent : has bytes byte ≡ false) where
    abbrev at : ℕ
    at = rank bytes byte

    gap : AreAround words width 0 (take at bytes) (drop at bytes) (take at kids) (drop at kids) byte
    gap = child-gap words width 0 bytes kids byte is.parts.children absent (omega arith) small

    abbrev without : Pairs
    without = join unit block (take at bytes) (take at kids) ++ (shift ((block + byte) * unit) [] ++ join unit block (drop at bytes) (drop at kids))

    gap_pairs : branch_pairs width skipped bytes kids ≡ without
    gap_pairs =
        (λ t. join unit block (sym (take-append-drop at bytes) t) (sym (take-append-drop at kids) t))
        ∙ join-without words width block (take at bytes) (drop at bytes) (take at kids) (drop at kids) byte gap

    pub gap_absent : has (keys_of old.pairs) key ≡ false
    gap_absent = ap (λ ps. has (keys_of ps) key) gap_pairs ∙ has-child words width block (take at bytes) (drop at bytes) (take at kids) (drop at kids) byte gap rest fits []

    module _ (value : ℕ) (new : Tree) (one : new.pairs ≡ (rest, value) ∷ []) (tight : IsTight new) where
      put_pairs : branch_pairs width skipped (insert bytes at byte) (insert kids at new) ≡ with_pair key value old.pairs
      put_pairs =
          join-with words width block (take at bytes) (drop at bytes) (take at kids) (drop at kids) byte gap new
          ∙ ap (λ ps. join unit block (take at bytes) (take at kids) ++ (shift ((block + byte) * unit) ps ++ join unit block (drop at bytes) (drop at kids))) one
          ∙ sym (with_pair-child words width block (take at bytes) (drop at bytes) (take at kids) (drop at kids) byte gap rest fits [] value)
          ∙ ap (with_pair key value) (sym gap_pairs)

      pub put_long : length (insert bytes at byte) ≡ length bytes + 1
      put_long = length-insert bytes at byte (rank_within bytes byte)

      pub put_branch : IsChild words width new → IsBranch words width skipped (insert bytes at byte) (insert kids at new) (count + 1)
      put_branch child = record {
        parts = record {
          some_width = is.parts.some_width;
          within = is.parts.within;
          skipped_bytes = is.parts.skipped_bytes;
          children = children-with words width 0 (take at bytes) (drop at bytes) (take at kids) (drop at kids) byte new gap child;
          counted = let more = length-with_pair key value old.pairs in let all = ap length put_pairs in let counted = is.parts.counted in omega arith;
        };
        holds = let long = put_long in omega arith;
      }

      pub put_loose : loose_in (forms_in (insert kids at new)) ≡ loose_in (forms_in kids)
      put_loose =
          let all = loose-with (take at kids) (drop at kids) new in
          let both = loose-append (take at kids) (drop at kids) in
          let same = ap (λ ks. loose_in (forms_in ks)) (take-append-drop at kids) in
          omega arith

      pub put_added : IsAdded key value old (branch_tree width skipped (insert bytes at byte) (insert kids at new) (count + 1))
      put_added = record {
        absent = gap_absent;
        pairs = put_pairs;
        tight = λ was. grown_tight skipped bytes (insert bytes at byte) count 1 kids (insert kids at new) was (let long = put_long in omega arith) (let same = put_loose in omega arith);
      }
