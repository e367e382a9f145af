-- The way down a tree: its beginning, a step to a child, and its end beside one.
use Rattle.std.proofs.Common.{◌≡◌, ℕ, zero, suc, ◌+◌, ◌-◌, ◌*◌, ◌^◌, ◌<◌, ◌≤◌, List, [], ◌∷◌, ◌++◌, length, take, drop, get_or, Some, slice_get, sym, refl, ap, ◌∙◌, subst, arith, length-append}
use Rattle.std.proofs.Math.Nat.{pow-le-pow_right}
use Rattle.std.proofs.lemmas.Nat.{mul-le, pow-add}
use Rattle.std.proofs.lemmas.List.{append-nil, take_all, drop_all}
use Rattle.std.proofs.lemmas.Option.{slice_get_within, slice_get-get_or}
use Rattle.judy_model.specs.Keys.{IsByteString}
use Rattle.judy_model.specs.WordBytes.{number_of}
use Rattle.judy_model.proofs.lemmas.orders.ByteLemmas.{number_of-lt, unit_pos}
use Rattle.judy_leaf.specs.KeyLists.{shift}
use Rattle.judy_node.specs.Trees.{Pairs, Tree, IsMap, join, IsChild, IsBranch, IsNode, branch_pairs}
use Rattle.judy_node.specs.Steps.{IsKeyOf, IsStep}
use Rattle.judy_node.specs.Views.{IsView, IsPlace, view_pairs}
use Rattle.judy_node.specs.declared.step.Step.{Step}
use Rattle.judy_node.specs.declared.step.Step.TheVariants.{Child, Missing, Below, Above}
use Rattle.judy_node.specs.declared.view.ViewOf.{ViewOf}
use Rattle.judy_node.specs.declared.view.ViewOf.TheVariants.{Null, One, Imm, Leaf, BitLeaf, Branch}
use Rattle.judy_node.specs.Populations.{population, HoldsNth}
use Rattle.judy_node.proofs.Maps.{map-wider, map-length, join-map, children-length, length-shift, shift-zero}
use Rattle.judy_node.proofs.Counts.{population-step, branch_population}
use Rattle.judy_query.specs.Parts.{IsPart, IsBeside, passed, reached, IsStart, width_of, IsEnd, IsShown, IsDown}
use Rattle.judy_query.proofs.Parts.{whole_part, part_of_part}
use Rattle.judy_query.proofs.Splits.{next_unit, split-at, gap-at, first_of, rest_of, first_long}

-- ---- in a branch

-- The words of a branch's width are as many as those of its skipped bytes, a byte and a child.
pub spread : (skipped : List ℕ) (width : ℕ) → 256 ^ (length skipped + 1 + width) ≡ 256 ^ length skipped * 256 * 256 ^ width
spread skipped width = pow-add 256 (length skipped + 1) width ∙ ap (λ n. n * 256 ^ width) (pow-add 256 (length skipped) 1)

-- The blocks of all bytes are among the words of a branch's width.
pub blocks_within : (skipped : List ℕ) (width : ℕ) → IsByteString skipped → (number_of skipped * 256 + 256) * 256 ^ width ≤ 256 ^ (length skipped + 1 + width)
blocks_within skipped width are =
    let below = number_of-lt skipped are in
    subst (λ n. (number_of skipped * 256 + 256) * 256 ^ width ≤ n) (sym (spread skipped width))
    (mul-le (number_of skipped * 256 + 256) (256 ^ width) (256 ^ length skipped * 256) (256 ^ width) (omega arith) (omega arith))

module _ (words width : ℕ) (skipped bytes : List ℕ) (kids : List Tree) (count : ℕ) (is : IsBranch words width skipped bytes kids count) (key : ℕ) where
  -- The child of a byte is a part of its branch.
  pub child_part : (byte rest place : ℕ) (kid : Tree) → IsKeyOf (256 ^ width) (number_of skipped * 256) key byte rest → slice_get bytes place ≡ Some byte → slice_get kids place ≡ Some kid
      → IsPart words (256 ^ (length skipped + 1 + width)) (branch_pairs width skipped bytes kids) (key - rest) (256 ^ width) kid.pairs
      (first_of (256 ^ width) (number_of skipped * 256) bytes kids place) (rest_of (256 ^ width) (number_of skipped * 256) bytes kids (suc place))
  child_part byte rest place kid of at there =
      let unit = 256 ^ width in
      let block = number_of skipped * 256 in
      let top = 256 ^ (length skipped + 1 + width) in
      let split = split-at words width 0 block bytes kids byte place kid (omega arith) is.parts.children at there in
      let room = blocks_within skipped width is.parts.skipped_bytes in
      let next = next_unit block byte unit in
      let is_key = of.key_is in
      let start : key - rest ≡ (block + byte) * unit = omega arith in
      let small = of.byte_is in
      let last : (block + (byte + 1)) * unit ≤ (block + 256) * unit = mul-le (block + (byte + 1)) unit (block + 256) unit (omega arith) (omega arith) in
      record {
        fits = omega arith;
        same = split.same ∙ ap (λ n. first_of unit block bytes kids place ++ (shift n kid.pairs ++ rest_of unit block bytes kids (suc place))) (sym start);
        before = map-wider words ((block + 0) * unit) ((block + byte) * unit) 0 (key - rest) (first_of unit block bytes kids place) (omega arith) (omega arith) split.before;
        after = map-wider words ((block + (byte + 1)) * unit) ((block + 256) * unit) (key - rest + unit) top (rest_of unit block bytes kids (suc place)) (omega arith) room split.after;
      }

  -- A key that leads to no child is a part without pairs.
  pub gap_part : (step : Step) → IsBeside step → IsStep (256 ^ width) (number_of skipped * 256) bytes key step → key < 256 ^ (length skipped + 1 + width)
      → IsPart words (256 ^ (length skipped + 1 + width)) (branch_pairs width skipped bytes kids) key 1 []
      (first_of (256 ^ width) (number_of skipped * 256) bytes kids (passed (length kids) step)) (rest_of (256 ^ width) (number_of skipped * 256) bytes kids (passed (length kids) step))
  gap_part (Child byte place rest) beside steps within = absurd beside
  gap_part (Missing byte place rest) beside steps within =
      let unit = 256 ^ width in
      let block = number_of skipped * 256 in
      let top = 256 ^ (length skipped + 1 + width) in
      let of = steps.0 in
      let gap = gap-at words width 0 block bytes kids byte (omega arith) of.byte_is is.parts.children steps.1 in
      let room = blocks_within skipped width is.parts.skipped_bytes in
      let next = next_unit block byte unit in
      let is_key = of.key_is in
      let is_rest = of.rest_is in
      subst (λ n. IsPart words top (branch_pairs width skipped bytes kids) key 1 [] (first_of unit block bytes kids n) (rest_of unit block bytes kids n)) (sym steps.2)
      (record {
        fits = omega arith;
        same = gap.same;
        before = map-wider words ((block + 0) * unit) ((block + byte) * unit) 0 key _ (omega arith) (omega arith) gap.before;
        after = map-wider words ((block + (byte + 1)) * unit) ((block + 256) * unit) (key + 1) top _ (omega arith) room gap.after;
      })
  gap_part Below beside steps within =
      let unit = 256 ^ width in
      let block = number_of skipped * 256 in
      let top = 256 ^ (length skipped + 1 + width) in
      let room = blocks_within skipped width is.parts.skipped_bytes in
      let start : (block + 0) * unit ≡ block * unit = ap (λ n. n * unit) (let e : block + 0 ≡ block = omega arith in e) in
      record {
        fits = omega arith;
        same = refl;
        before = tt;
        after =
            map-wider words ((block + 0) * unit) ((block + 256) * unit) (key + 1) top (branch_pairs width skipped bytes kids) (omega arith) room
            (join-map words width 0 block bytes kids (omega arith) is.parts.children);
      }
  gap_part Above beside steps within =
      let unit = 256 ^ width in
      let block = number_of skipped * 256 in
      let top = 256 ^ (length skipped + 1 + width) in
      let long = children-length words width 0 bytes kids is.parts.children in
      let all_bytes : take (length kids) bytes ≡ bytes = take_all (length kids) bytes (omega arith) in
      let all_kids : take (length kids) kids ≡ kids = take_all (length kids) kids (omega arith) in
      let none : rest_of unit block bytes kids (length kids) ≡ [] = ap (λ bs. join unit block bs (drop (length kids) kids)) (drop_all (length kids) bytes (omega arith)) in
      let all : first_of unit block bytes kids (length kids) ≡ branch_pairs width skipped bytes kids = λ t. join unit block (all_bytes t) (all_kids t) in
      record {
        fits = omega arith;
        same = sym (append-nil (branch_pairs width skipped bytes kids)) ∙ (λ t. sym all t ++ sym none t);
        before = subst (λ ps. IsMap words 0 key ps) (sym all)
            (map-wider words ((block + 0) * unit) ((block + 256) * unit) 0 key (branch_pairs width skipped bytes kids) (omega arith) steps
            (join-map words width 0 block bytes kids (omega arith) is.parts.children));
        after = subst (λ ps. IsMap words (key + 1) top ps) (sym none) tt;
      }

  no_tree : Tree
  no_tree = record { width = 0; pairs = []; form = [] }

  there_is : (place : ℕ) → place < length kids → slice_get kids place ≡ Some (get_or kids place no_tree)
  there_is place inside = slice_get-get_or kids place no_tree inside

  -- Where the keys of a child begin is a word, and so is that before it is moved up.
  pub start_fits : (byte place : ℕ) → place < length kids → slice_get bytes place ≡ Some byte → ((number_of skipped * 256 + byte) * 256 ^ width < 2 ^ 64) × (number_of skipped * 256 + byte < 2 ^ 64)
  start_fits byte place inside at =
      let unit = 256 ^ width in
      let block = number_of skipped * 256 in
      let split = split-at words width 0 block bytes kids byte place (get_or kids place no_tree) (omega arith) is.parts.children at (there_is place inside) in
      let small = split.high_byte in
      let room = blocks_within skipped width is.parts.skipped_bytes in
      let next = next_unit block byte unit in
      let some = unit_pos width in
      let narrow = is.parts.within in
      let most : 256 ^ (length skipped + 1 + width) ≤ 256 ^ 8 = pow-le-pow_right {n = 256} (omega arith) narrow in
      let last : (block + (byte + 1)) * unit ≤ (block + 256) * unit = mul-le (block + (byte + 1)) unit (block + 256) unit (omega arith) (omega arith) in
      let flat : (block + byte) * 1 ≤ (block + byte) * unit = mul-le (block + byte) 1 (block + byte) unit (omega arith) some in
      (omega arith, omega arith)

  pub byte_there : (place : ℕ) → place < length kids → slice_get bytes place ≡ Some (get_or bytes place 0)
  byte_there place inside =
      let long = children-length words width 0 bytes kids is.parts.children in
      slice_get-get_or bytes place 0 (omega arith)

  pub kid_is : (place : ℕ) (kid : Tree) → place < length kids → kid ≡ get_or kids place kid → IsChild words width kid
  kid_is place kid inside same =
      (split-at words width 0 (number_of skipped * 256) bytes kids (get_or bytes place 0) place kid (omega arith) is.parts.children (byte_there place inside)
      (slice_get-get_or kids place kid inside ∙ ap Some (sym same))).child

  pub kid_some : (place : ℕ) (kid : Tree) → place < length kids → kid ≡ get_or kids place kid → 0 < length kid.pairs
  kid_some place kid inside same = (kid_is place kid inside same).some

  -- At either end of the children the one that has a key is known.
  pub holds_first : (n : ℕ) → n ≡ 0 → (kid : Tree) × HoldsNth kids n 0 0 kid
  holds_first n first =
      let long = children-length words width 0 bytes kids is.parts.children in
      let some = is.holds in
      let inside : 0 < length kids = omega arith in
      let kid = get_or kids 0 no_tree in
      (kid, record { there = there_is 0 inside; counted = first; inside = kid_some 0 kid inside (same_again kids kid inside) })
    where
      same_again : (kids : List Tree) (kid : Tree) → 0 < length kids → get_or kids 0 no_tree ≡ get_or kids 0 kid
      same_again [] kid inside = let never : ⊥ = omega arith in absurd never
      same_again (k ∷ kids) kid inside = refl

  pub holds_last : (n last : ℕ) (kid : Tree) → last + 1 ≡ length kids → kid ≡ get_or kids last kid → n + 1 ≡ count → (held : Tree) × HoldsNth kids n last (length kid.pairs - 1) held
  holds_last n last kid end same all =
      let inside : last < length kids = omega arith in
      let some = kid_some last kid inside same in
      let step = population-step kids last kid inside same in
      let whole = ap population (take_all (last + 1) kids (omega arith)) in
      let total = branch_population words width skipped bytes kids count is in
      (kid, record { there = slice_get-get_or kids last kid inside ∙ ap Some (sym same); counted = omega arith; inside = omega arith })

-- ---- what is entered

pub view_width : {V : _} (words width : ℕ) (tree : Tree) (view : ViewOf V) → (length tree.pairs ≡ 0 → width ≡ 8) → IsView words width tree view → width_of view ≡ width
view_width words width tree Null none is = sym (none (ap length is.pairs))
view_width words width tree (One key value) none is = sym is.place
view_width words width tree (Imm list) none is = is.place
view_width words width tree (Leaf list) none is = is.place
view_width words width tree (BitLeaf skipped list) none is = is.place.0
view_width words width tree (Branch b) none is = is.place.0

pub is_shown : {V : _} (words width : ℕ) (tree : Tree) (view : ViewOf V) → 1 ≤ width → width ≤ 8 → width_of view ≡ width → IsView words width tree view → IsShown words view
is_shown words width tree view some narrow wide is = record {
  some = omega arith;
  narrow = omega arith;
  map = subst (λ w. IsMap words 0 (256 ^ w) (view_pairs view)) (sym wide) is.map;
  place = subst (λ w. IsPlace words w view) (sym wide) is.place;
}

-- A node that isn't shown as a branch has no children.
pub end_is : {V : _} (view : ViewOf V) → ((branch : _) → view ≡ Branch branch → ⊥) → IsEnd view
end_is Null other = tt
end_is (One key value) other = tt
end_is (Imm list) other = tt
end_is (Leaf list) other = tt
end_is (BitLeaf skipped list) other = tt
end_is (Branch branch) other = absurd (other branch refl)

-- The way begins at the root.
abbrev pub down_root : {V : _} (words : ℕ) (tree : Tree) (view : ViewOf V) (key : ℕ) → IsNode words tree → IsView words 8 tree view → key < 2 ^ 64 → IsDown words tree.pairs view key key
down_root words tree view key node is word =
    let wide = view_width words 8 tree view (λ none. refl) is in
    record {
      above = omega arith;
      inside = subst (λ w. key < 256 ^ w) (sym wide) word;
      shown = is_shown words 8 tree view (omega arith) (omega arith) wide is;
      front = [];
      back = [];
      part = subst (λ w. IsPart words (256 ^ 8) tree.pairs (key - key) (256 ^ w) (view_pairs view) [] []) (sym wide)
          (subst (λ ps. IsPart words (256 ^ 8) tree.pairs (key - key) (256 ^ 8) ps [] []) is.pairs
          (whole_part words (256 ^ 8) (key - key) tree.pairs (omega arith) node.map));
    }

-- ---- steps

-- The way has come to a node, and stands between these pairs.
pub record IsStepped {V : _} (words : ℕ) (tree : Pairs) (view : ViewOf V) (key left width : ℕ) (front back : Pairs) : Type 0 where
  pub down : IsDown words tree view key left
  pub front_is : down.front ≡ front
  pub back_is : down.back ≡ back
  pub width_is : width_of view ≡ width

-- The node that the way has come to is a branch.
pub down_branch : {V : _} {words : ℕ} {tree : Pairs} {view : ViewOf V} {b : _} {key left : ℕ} → IsDown words tree view key left → view ≡ Branch b → IsDown words tree (Branch b) key left
down_branch {words = words} {tree = tree} {key = key} {left = left} down is = subst (λ v. IsDown words tree v key left) is down

module _ {V : _} {words : ℕ} {tree : Pairs} {b : _} {key left : ℕ} (down : IsDown {V = V} words tree (Branch b) key left) where
  pub branch_is : IsBranch words b.now.width b.now.skip b.now.bytes b.now.children.items b.now.population
  branch_is = down.shown.place.1

  -- The pairs in front of the way, and in front of a child of this branch.
  pub front_long : (place : ℕ) → length (down.front ++ shift (key - left) (first_of (256 ^ b.now.width) (number_of b.now.skip * 256) b.now.bytes b.now.children.items place))
      ≡ length down.front + population (take place b.now.children.items)
  front_long place =
      let first = first_of (256 ^ b.now.width) (number_of b.now.skip * 256) b.now.bytes b.now.children.items place in
      let both = length-append down.front (shift (key - left) first) in
      let moved = length-shift (key - left) first in
      let long = first_long words b.now.width 0 (256 ^ b.now.width) (number_of b.now.skip * 256) b.now.bytes b.now.children.items place branch_is.parts.children in
      omega arith

  module _ (byte place rest : ℕ) (steps : IsStep (256 ^ b.now.width) (number_of b.now.skip * 256) b.now.bytes left (Child byte place rest)) where
    -- There is a child at the place.
    pub child_inside : place < length b.now.children.items
    child_inside =
        let long = children-length words b.now.width 0 b.now.bytes b.now.children.items branch_is.parts.children in
        let within = slice_get_within b.now.bytes place byte steps.1 in
        omega arith

    module _ {kid : Tree} (is : kid ≡ get_or b.now.children.items place kid) where
      there : slice_get b.now.children.items place ≡ Some kid
      there = slice_get-get_or b.now.children.items place kid child_inside ∙ ap Some (sym is)

      pub child_is : IsChild words b.now.width kid
      child_is = (split-at words b.now.width 0 (number_of b.now.skip * 256) b.now.bytes b.now.children.items byte place kid (omega arith) branch_is.parts.children steps.1 there).child

      pub down_part : IsPart words (256 ^ 8) tree (key - rest) (256 ^ b.now.width) kid.pairs
          (down.front ++ shift (key - left) (first_of (256 ^ b.now.width) (number_of b.now.skip * 256) b.now.bytes b.now.children.items place))
          (shift (key - left) (rest_of (256 ^ b.now.width) (number_of b.now.skip * 256) b.now.bytes b.now.children.items (suc place)) ++ down.back)
      down_part =
          let of = steps.0 in
          let is_key = of.key_is in
          let above = down.above in
          let unit = 256 ^ b.now.width in
          let block = number_of b.now.skip * 256 in
          part_of_part words (256 ^ 8) tree (key - left) (256 ^ (length b.now.skip + 1 + b.now.width)) (left - rest) unit (key - rest)
          (branch_pairs b.now.width b.now.skip b.now.bytes b.now.children.items) down.front down.back kid.pairs
          (first_of unit block b.now.bytes b.now.children.items place) (rest_of unit block b.now.bytes b.now.children.items (suc place))
          (omega arith) down.part
          (child_part words b.now.width b.now.skip b.now.bytes b.now.children.items b.now.population branch_is left byte rest place kid of steps.1 there)

      -- A step to a child.
      pub down_child : {next : ViewOf V} → IsView words b.now.width kid next
          → IsStepped words tree next key rest b.now.width
          (down.front ++ shift (key - left) (first_of (256 ^ b.now.width) (number_of b.now.skip * 256) b.now.bytes b.now.children.items place))
          (shift (key - left) (rest_of (256 ^ b.now.width) (number_of b.now.skip * 256) b.now.bytes b.now.children.items (suc place)) ++ down.back)
      down_child {next} view =
          let child = child_is in
          let some = child.some in
          let of = steps.0 in
          let is_key = of.key_is in
          let above = down.above in
          let unit = 256 ^ b.now.width in
          let wide = view_width words b.now.width kid next (λ (none : length kid.pairs ≡ 0). let never : ⊥ = omega arith in absurd never) view in
          let block = number_of b.now.skip * 256 in
          let before = down.front ++ shift (key - left) (first_of unit block b.now.bytes b.now.children.items place) in
          let behind = shift (key - left) (rest_of unit block b.now.bytes b.now.children.items (suc place)) ++ down.back in
          let part = down_part in
          record {
            down = record {
              above = omega arith;
              inside = subst (λ w. rest < 256 ^ w) (sym wide) of.rest_is;
              shown = is_shown words b.now.width kid next child.low_width child.high_width wide view;
              front = before;
              back = behind;
              part = subst (λ w. IsPart words (256 ^ 8) tree (key - rest) (256 ^ w) (view_pairs next) before behind) (sym wide)
                  (subst (λ ps. IsPart words (256 ^ 8) tree (key - rest) unit ps before behind) view.pairs part);
            };
            front_is = refl;
            back_is = refl;
            width_is = wide;
          }

  -- The way ends beside a child.
  pub down_gap : (step : Step) → IsBeside step → IsStep (256 ^ b.now.width) (number_of b.now.skip * 256) b.now.bytes left step
      → IsPart words (256 ^ 8) tree key 1 []
      (down.front ++ shift (key - left) (first_of (256 ^ b.now.width) (number_of b.now.skip * 256) b.now.bytes b.now.children.items (passed (length b.now.children.items) step)))
      (shift (key - left) (rest_of (256 ^ b.now.width) (number_of b.now.skip * 256) b.now.bytes b.now.children.items (passed (length b.now.children.items) step)) ++ down.back)
  down_gap step beside steps =
      let above = down.above in
      part_of_part words (256 ^ 8) tree (key - left) (256 ^ (length b.now.skip + 1 + b.now.width)) left 1 key
      (branch_pairs b.now.width b.now.skip b.now.bytes b.now.children.items) down.front down.back [] _ _ (omega arith) down.part
      (gap_part words b.now.width b.now.skip b.now.bytes b.now.children.items b.now.population branch_is left step beside steps down.inside)

  beside_within : (step : Step) → IsBeside step → IsStep (256 ^ b.now.width) (number_of b.now.skip * 256) b.now.bytes left step
      → length down.front + population (take (passed (length b.now.children.items) step) b.now.children.items) ≤ key
  beside_within step beside steps =
      let part = down_gap step beside steps in
      let few = map-length words 0 key (down.front ++ shift (key - left) (first_of (256 ^ b.now.width) (number_of b.now.skip * 256) b.now.bytes b.now.children.items
      (passed (length b.now.children.items) step))) (omega arith) part.before in
      let long = front_long (passed (length b.now.children.items) step) in
      omega arith

  -- No more pairs are in front than there are words below the key.
  pub front_within : (step : Step) → IsStep (256 ^ b.now.width) (number_of b.now.skip * 256) b.now.bytes left step
      → length down.front + population (take (passed (length b.now.children.items) step) b.now.children.items) ≤ key
  front_within (Child byte place rest) steps =
      let inside = child_inside byte place rest steps in
      let default : Tree = record { width = 0; pairs = []; form = [] } in
      let kid = get_or b.now.children.items place default in
      let part = down_part byte place rest steps (read_again b.now.children.items place default kid inside) in
      let few = map-length words 0 (key - rest) (down.front ++ shift (key - left) (first_of (256 ^ b.now.width) (number_of b.now.skip * 256) b.now.bytes b.now.children.items place))
      (omega arith) part.before in
      let long = front_long place in
      omega arith
    where
      read_again : (kids : List Tree) (at : ℕ) (one other : Tree) → at < length kids → get_or kids at one ≡ get_or kids at other
      read_again [] at one other inside = let never : ⊥ = omega arith in absurd never
      read_again (k ∷ kids) zero one other inside = refl
      read_again (k ∷ kids) (suc at) one other inside = read_again kids at one other (omega arith)
  front_within (Missing byte place rest) steps = beside_within (Missing byte place rest) tt steps
  front_within Below steps = beside_within Below tt steps
  front_within Above steps = beside_within Above tt steps

pub beside_is : (step : Step) → ((byte place rest : ℕ) → step ≡ Child byte place rest → ⊥) → IsBeside step
beside_is (Child byte place rest) never = never byte place rest refl
beside_is (Missing byte place rest) never = tt
beside_is Below never = tt
beside_is Above never = tt

-- How many children are before the key of a step.
pub passed_few : (words width : ℕ) (skipped bytes : List ℕ) (kids : List Tree) (count key : ℕ) (step : Step) → IsBranch words width skipped bytes kids count
    → IsStep (256 ^ width) (number_of skipped * 256) bytes key step → passed (length kids) step ≤ length kids
passed_few words width skipped bytes kids count key (Child byte place rest) is steps =
    let long = children-length words width 0 bytes kids is.parts.children in
    let within = slice_get_within bytes place byte steps.1 in
    omega arith
passed_few words width skipped bytes kids count key (Missing byte place rest) is steps =
    let of = steps.0 in
    let gap = gap-at words width 0 (number_of skipped * 256) bytes kids byte (omega arith) of.byte_is is.parts.children steps.1 in
    let within = gap.within in
    let same = steps.2 in
    omega arith
passed_few words width skipped bytes kids count key Below is steps = omega arith
passed_few words width skipped bytes kids count key Above is steps = omega arith

-- The way of another key to the same node.
abbrev pub rekeyed : {V : _} (words : ℕ) (tree : Pairs) (view : ViewOf V) (key left other rest : ℕ) (down : IsDown words tree view key left) → rest < 256 ^ width_of view →
    other ≡ (key - left) + rest → IsDown words tree view other rest
rekeyed words tree view key left other rest down inside sum = record {
  above = omega arith;
  inside = inside;
  shown = down.shown;
  front = down.front;
  back = down.back;
  part = subst (λ base. IsPart words (256 ^ 8) tree base (256 ^ width_of view) (view_pairs view) down.front down.back) (let e : key - left ≡ other - rest = omega arith in e) down.part;
}

-- A node is a part of itself.
abbrev pub down_top : {V : _} (words : ℕ) (view : ViewOf V) → IsShown words view → IsDown words (view_pairs view) view 0 0
down_top words view is =
    let most : 256 ^ width_of view ≤ 256 ^ 8 = pow-le-pow_right {n = 256} (omega arith) is.narrow in
    record {
      above = omega arith;
      inside = unit_pos (width_of view);
      shown = is;
      front = [];
      back = [];
      part = record {
        fits = omega arith;
        same = sym (append-nil (shift 0 (view_pairs view)) ∙ shift-zero 0 (view_pairs view) refl);
        before = tt;
        after = tt;
      };
    }

-- ---- the way to the child at a place

-- The child at a place stands at a byte, and its keys fit those of the branch.
start_told : (words width : ℕ) (skipped bytes : List ℕ) (kids : List Tree) (count place start : ℕ) → IsBranch words width skipped bytes kids count → place < length kids
    → (from : IsStart (256 ^ width) (number_of skipped * 256) bytes place start) → (from.0 < 256) × (start + 256 ^ width ≤ 256 ^ (length skipped + 1 + width))
start_told words width skipped bytes kids count place start is inside from =
    let byte = from.0 in
    let block = number_of skipped * 256 in
    let unit = 256 ^ width in
    let default : Tree = record { width = 0; pairs = []; form = [] } in
    let split = split-at words width 0 block bytes kids byte place (get_or kids place default) (omega arith) is.parts.children from.1 (slice_get-get_or kids place default inside) in
    let small = split.high_byte in
    let room = blocks_within skipped width is.parts.skipped_bytes in
    let next = next_unit block byte unit in
    let last : (block + (byte + 1)) * unit ≤ (block + 256) * unit = mul-le (block + (byte + 1)) unit (block + 256) unit (omega arith) (omega arith) in
    let is_start = from.2 in
    (small, omega arith)

-- The first key of the child at a place steps to it.
pub start_steps : (words width : ℕ) (skipped bytes : List ℕ) (kids : List Tree) (count place start : ℕ) → IsBranch words width skipped bytes kids count → place < length kids
    → (from : IsStart (256 ^ width) (number_of skipped * 256) bytes place start)
    → IsStep (256 ^ width) (number_of skipped * 256) bytes start (Child from.0 place 0) × (start < 256 ^ (length skipped + 1 + width))
start_steps words width skipped bytes kids count place start is inside from =
    let told = start_told words width skipped bytes kids count place start is inside from in
    let some = unit_pos width in
    let is_start = from.2 in
    ((record { byte_is = told.0; rest_is = some; key_is = omega arith }, from.1), omega (arith, told.1))

-- The keys of the child at a place fit those of the branch.
pub start_room : (words width : ℕ) (skipped bytes : List ℕ) (kids : List Tree) (count place start : ℕ) → IsBranch words width skipped bytes kids count → place < length kids
    → IsStart (256 ^ width) (number_of skipped * 256) bytes place start → start + 256 ^ width ≤ 256 ^ (length skipped + 1 + width)
start_room words width skipped bytes kids count place start is inside from = (start_told words width skipped bytes kids count place start is inside from).1

module _ {V : _} (words : ℕ) (tree : Pairs) (b : _) (base : ℕ) (down : IsDown {V = V} words tree (Branch b) base 0) (place start : ℕ) (inside : place < length b.now.children.items)
    (from : IsStart (256 ^ b.now.width) (number_of b.now.skip * 256) b.now.bytes place start) where
  pub steps_there : IsStep (256 ^ b.now.width) (number_of b.now.skip * 256) b.now.bytes start (Child from.0 place 0) × (start < 256 ^ (length b.now.skip + 1 + b.now.width))
  steps_there = start_steps words b.now.width b.now.skip b.now.bytes b.now.children.items b.now.population place start (branch_is down) inside from

  -- The way of the child's first key.
  abbrev pub down_start : IsDown {V = V} words tree (Branch b) (base + start) start
  down_start = rekeyed words tree (Branch b) base 0 (base + start) start down steps_there.1 (omega arith)

  pub start_word : base + start < 2 ^ 64
  start_word = let fits = down.part.fits in let below = steps_there.1 in omega arith

  module _ (kid : Tree) (is : kid ≡ get_or b.now.children.items place kid) where
    pub start_child : IsChild words b.now.width kid
    start_child = child_is down_start from.0 place 0 steps_there.0 is

    -- The node that was entered there, and how many pairs are in front of it.
    pub start_down : (next : ViewOf V) → IsView words b.now.width kid next
        → (entered : IsDown words tree next (base + start) 0) × (length entered.front ≡ length down.front + population (take place b.now.children.items)) × (width_of next ≡ b.now.width)
    start_down next view =
        let stepped = down_child down_start from.0 place 0 steps_there.0 is view in
        (stepped.down, ap length stepped.front_is ∙ front_long down_start place, stepped.width_is)

-- Beside a child those that aren't above the key are those before it.
pub beside_reached : (all : ℕ) (step : Step) → IsBeside step → reached all step ≡ passed all step
beside_reached all (Child byte place rest) beside = absurd beside
beside_reached all (Missing byte place rest) beside = refl
beside_reached all Below beside = refl
beside_reached all Above beside = refl
