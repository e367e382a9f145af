-- Where the words of a node lie in a branch of another tree, and what is found there.
use Rattle.std.proofs.Common.{◌≡◌, ℕ, suc, ◌+◌, ◌-◌, ◌*◌, ◌^◌, ◌<◌, ◌≤◌, Bool, true, false, cond, not, List, [], length, drop, get_or, Some, None, is_some, slice_get}
use Rattle.std.proofs.Common.{refl, sym, ap, ◌∙◌, subst, arith}
use Rattle.std.proofs.Math.Nat.{pow-le-pow_right, pow-suc}
use Rattle.std.proofs.lemmas.List.{drop_all}
use Rattle.std.proofs.lemmas.Option.{slice_get-get_or, slice_get_within}
use Rattle.judy_model.specs.WordBytes.{number_of}
use Rattle.judy_model.proofs.lemmas.orders.ByteLemmas.{unit_pos}
use Rattle.judy_leaf.specs.KeyLists.{KeyList, shift}
use Rattle.judy_node.specs.Trees.{Pairs, Tree, IsMap, IsBranch, IsChild, AreChildren, join, branch_pairs}
use Rattle.judy_node.specs.Steps.{IsKeyOf, IsStep}
use Rattle.judy_node.specs.Views.{IsPlace, IsView, view_pairs}
use Rattle.judy_node.specs.declared.step.Step.{Step}
use Rattle.judy_node.specs.declared.view.ViewOf.{ViewOf}
use Rattle.judy_node.specs.declared.view.ViewOf.TheVariants.{BitLeaf, Branch, Leaf}
use Rattle.judy_node.proofs.Maps.{children-length}
use Rattle.judy_query.specs.Parts.{IsBeside, IsPart, IsShown, passed, value_of, width_of}
use Rattle.judy_query.proofs.Downs.{child_part, gap_part, is_shown, view_width}
use Rattle.judy_query.proofs.Finds.{part-value}
use Rattle.judy_query.proofs.Runs.{run-full}
use Rattle.judy_query.proofs.Splits.{first_of, rest_of, rest_more}
use Rattle.judy_sets.specs.Meets.{found}
use Rattle.judy_sets.proofs.MeetFacts.{found-join, found-shift, found-none, found-alike, found-such, some-has}

module _ (words below : ℕ) (skipped bytes : List ℕ) (kids : List Tree) (count : ℕ) (is : IsBranch words below skipped bytes kids count) (by width : ℕ) where
  -- Between two words beside children, before which as many children stand, there are no keys.
  pub free_between : (first last : Step) → IsBeside first → IsBeside last → IsStep (256 ^ below) (number_of skipped * 256) bytes by first
      → IsStep (256 ^ below) (number_of skipped * 256) bytes (by + (256 ^ width - 1)) last → passed (length kids) first ≡ passed (length kids) last
      → by + 256 ^ width ≤ 256 ^ (length skipped + 1 + below) → (key : ℕ) → key < 256 ^ width → value_of (branch_pairs below skipped bytes kids) (by + key) ≡ None
  free_between first last beside_first beside_last steps_first steps_last same fits key inside =
      let unit = 256 ^ below in
      let block = number_of skipped * 256 in
      let top = 256 ^ (length skipped + 1 + below) in
      let some = unit_pos width in
      let one = gap_part words below skipped bytes kids count is by first beside_first steps_first (omega arith) in
      let two = gap_part words below skipped bytes kids count is (by + (256 ^ width - 1)) last beside_last steps_last (omega arith) in
      let behind : by + (256 ^ width - 1) + 1 ≡ by + 256 ^ width = omega arith in
      let part : IsPart words top (branch_pairs below skipped bytes kids) by (256 ^ width) [] (first_of unit block bytes kids (passed (length kids) first))
      (rest_of unit block bytes kids (passed (length kids) first)) = record {
        fits = fits;
        same = one.same;
        before = one.before;
        after = subst (λ low. IsMap words low top (rest_of unit block bytes kids (passed (length kids) first))) behind
            (subst (λ n. IsMap words (by + (256 ^ width - 1) + 1) top (rest_of unit block bytes kids n)) (sym same) two.after);
      } in
      part-value words top (branch_pairs below skipped bytes kids) by (256 ^ width) key (by + key) [] _ _ part refl inside

  -- What is found in a branch is what is found in the child in which the words lie.
  module _ (byte rest place : ℕ) (kid : Tree) (of : IsKeyOf (256 ^ below) (number_of skipped * 256) by byte rest) (at : slice_get bytes place ≡ Some byte)
      (inside : place < length kids) (there : kid ≡ get_or kids place kid) (room : rest + 256 ^ width ≤ 256 ^ below) where
    pub child_value : (key : ℕ) → key < 256 ^ width → value_of (branch_pairs below skipped bytes kids) (by + key) ≡ value_of kid.pairs (rest + key)
    child_value key small =
        let is_key = of.key_is in
        part-value words (256 ^ (length skipped + 1 + below)) (branch_pairs below skipped bytes kids) (by - rest) (256 ^ below) (rest + key) (by + key) kid.pairs _ _
        (child_part words below skipped bytes kids count is by byte rest place kid of at (slice_get-get_or kids place kid inside ∙ ap Some (sym there)))
        (omega arith) (omega arith)

    pub found_there : (wanted : Bool) (pairs : Pairs) → IsMap words 0 (256 ^ width) pairs → found wanted by pairs (branch_pairs below skipped bytes kids) ≡ found wanted rest pairs kid.pairs
    found_there wanted pairs map = found-alike wanted words 0 (256 ^ width) by rest pairs (branch_pairs below skipped bytes kids) kid.pairs map child_value

    -- A full child has them all.
    pub found_full : (wanted : Bool) (pairs : Pairs) → IsMap words 0 (256 ^ width) pairs → IsMap words 0 (256 ^ below) kid.pairs → length kid.pairs ≡ 256 ^ below
        → found wanted by pairs (branch_pairs below skipped bytes kids) ≡ cond wanted (length pairs) 0
    found_full wanted pairs map full_map full =
        let run = run-full words 0 (256 ^ below) kid.pairs (omega arith) full_map (omega arith) in
        found-such wanted wanted words 0 (256 ^ width) by pairs (branch_pairs below skipped bytes kids) map (λ key small.
        ap (λ o. cond wanted (is_some o) (not (is_some o))) (child_value key small)
        ∙ ap (λ b. cond wanted b (not b)) (some-has kid.pairs (rest + key) ∙ run.held (rest + key) (omega arith) (omega arith))
        ∙ elim wanted as (λ b. cond b true false ≡ b) [ true ↦ refl | false ↦ refl ])

  -- Where there are none.
  pub found_free : (wanted : Bool) (pairs : Pairs) → IsMap words 0 (256 ^ width) pairs → ((key : ℕ) → key < 256 ^ width → value_of (branch_pairs below skipped bytes kids) (by + key) ≡ None)
      → found wanted by pairs (branch_pairs below skipped bytes kids) ≡ cond (not wanted) (length pairs) 0
  found_free wanted pairs map none =
      found-such wanted (not wanted) words 0 (256 ^ width) by pairs (branch_pairs below skipped bytes kids) map (λ key small.
      ap (λ o. cond wanted (is_some o) (not (is_some o))) (none key small) ∙ elim wanted as (λ b. cond b false true ≡ not b) [ true ↦ refl | false ↦ refl ])

-- The children from a place on are its child and those behind it.
pub found_next : (wanted : Bool) (by unit block : ℕ) (bytes : List ℕ) (kids : List Tree) (byte place start : ℕ) (kid : Tree) (others : Pairs) → slice_get bytes place ≡ Some byte
    → place < length kids → kid ≡ get_or kids place kid → start ≡ by + (block + byte) * unit
    → found wanted start kid.pairs others + found wanted by (rest_of unit block bytes kids (place + 1)) others ≡ found wanted by (rest_of unit block bytes kids place) others
found_next wanted by unit block bytes kids byte place start kid others at inside there begins =
    let behind : suc place ≡ place + 1 = omega arith in
    let first = shift ((block + byte) * unit) kid.pairs in
    let rest = rest_of unit block bytes kids in
    (λ t. sym (found-shift wanted by ((block + byte) * unit) start kid.pairs others begins) t + found wanted by (rest (sym behind t)) others)
    ∙ found-join wanted by first (rest (suc place)) others
    ∙ ap (λ (ps : Pairs). found wanted by ps others) (sym (rest_more unit block bytes kids byte place kid at (slice_get-get_or kids place kid inside ∙ ap Some (sym there))))

-- Behind the last child there are none.
pub found_behind : (wanted : Bool) (words width by low unit block : ℕ) (bytes : List ℕ) (kids : List Tree) (place : ℕ) (others : Pairs) → AreChildren words width low bytes kids → length kids ≤ place
    → found wanted by (rest_of unit block bytes kids place) others ≡ 0
found_behind wanted words width by low unit block bytes kids place others are past =
    let long = children-length words width low bytes kids are in
    found-none wanted by (rest_of unit block bytes kids place) others (ap (λ (bs : List ℕ). join unit block bs (drop place kids)) (drop_all place bytes (omega arith)))

-- ---- what is shown

pub shown_branch : {V : _} (words : ℕ) (view : ViewOf V) (b : _) → view ≡ Branch b → IsShown words view → IsBranch words b.now.width b.now.skip b.now.bytes b.now.children.items b.now.population
shown_branch words view b is shown = (subst (λ v. IsPlace words (width_of v) v) is shown.place).1

pub part_shown : {V : _} (words width : ℕ) (kid : Tree) (next : ViewOf V) → IsChild words width kid → IsView words width kid next → (width_of next ≡ width) × IsShown words next
part_shown words width kid next child view =
    let some = child.some in
    let wide = view_width words width kid next (λ (none : length kid.pairs ≡ 0). let never : ⊥ = omega arith in absurd never) view in
    (wide, is_shown words width kid next child.low_width child.high_width wide view)

-- There is a child at the place of a byte.
pub lot_inside : (words width low : ℕ) (bytes : List ℕ) (kids : List Tree) (place byte : ℕ) → AreChildren words width low bytes kids → slice_get bytes place ≡ Some byte → place < length kids
lot_inside words width low bytes kids place byte are at =
    let long = children-length words width low bytes kids are in
    let within = slice_get_within bytes place byte at in
    omega arith

-- ---- bitmap leaves

-- The skipped bytes and the last one are below what the width has.
pub front_within : {V : _} (words : ℕ) (view : ViewOf V) (front : ℕ) (list : KeyList) → view ≡ BitLeaf front list → IsShown words view → front * 256 + 256 ≤ 256 ^ width_of view
front_within words view front list is shown =
    let place = subst (λ v. IsPlace words (width_of v) v) is shown.place in
    let wide : width_of view ≡ list.width = ap width_of is in
    let some = shown.some in
    let skipped = place.1 in
    let one : suc (list.width - 1) ≡ width_of view = omega arith in
    let power = pow-suc 256 (list.width - 1) in
    let same = ap (λ w. 256 ^ w) one in
    omega arith

pub front_word : {V : _} (words : ℕ) (view : ViewOf V) (front : ℕ) (list : KeyList) → view ≡ BitLeaf front list → IsShown words view → front * 256 < 2 ^ 64
front_word words view front list is shown =
    let within = front_within words view front list is shown in
    let most : 256 ^ width_of view ≤ 256 ^ 8 = pow-le-pow_right {n = 256} (omega arith) shown.narrow in
    omega arith

-- The pairs of a leaf that was entered are those of a map of its width.
pub leaf_map : {V : _} (words : ℕ) (view : ViewOf V) (list : KeyList) → view ≡ Leaf list → IsShown words view → IsMap words 0 (256 ^ list.width) list.pairs
leaf_map words view list is shown = subst (λ v. IsMap words 0 (256 ^ width_of v) (view_pairs v)) is shown.map
