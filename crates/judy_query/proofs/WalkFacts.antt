-- The turns that a walk keeps, and the nodes that it comes to.
use Rattle.std.proofs.Common.{◌≡◌, ℕ, zero, suc, ◌+◌, ◌*◌, ◌^◌, ◌<◌, ◌≤◌, List, [], ◌∷◌, ◌++◌, length, drop, get_or, Option, Some, None, MatchOption, slice_get, sym, refl, ap, ◌∙◌, subst, arith}
use Rattle.std.proofs.lemmas.List.{append_assoc, append-nil, drop_all, drop-append-le}
use Rattle.std.proofs.lemmas.Option.{same_Some, slice_get-get_or}
use Rattle.std.proofs.Math.Seq.{drop-append-add}
use Rattle.judy_model.specs.WordBytes.{number_of}
use Rattle.judy_bits.specs.ByteSets.{rank}
use Rattle.judy_bits.proofs.FewLemmas.{rank-le}
use Rattle.judy_leaf.specs.KeyLists.{shift, keys_of}
use Rattle.judy_node.specs.Trees.{Pairs, Tree, join, IsChild, IsBranch}
use Rattle.judy_node.specs.Views.{IsView, view_pairs}
use Rattle.judy_node.specs.declared.view.ViewOf.{ViewOf}
use Rattle.judy_node.proofs.Maps.{children-length, length-shift, length-keys_of, shift-append, shift-shift}
use Rattle.judy_node.specs.declared.view.ViewOf.TheVariants.{Branch}
use Rattle.judy_query.specs.Parts.{IsPart, IsStart, IsShown, width_of}
use Rattle.judy_query.specs.Turns.{IsTurn, IsFirst}
use Rattle.judy_query.specs.Walks.{rest_of_turn, rest_if_any, waiting, IsTurnBehind, AreTurns}
use Rattle.judy_query.specs.declared.turns.Turn.{Turn}
use Rattle.judy_query.proofs.Downs.{kid_is, start_room, view_width, is_shown}
use Rattle.judy_query.proofs.RankFacts.{part-rank}
use Rattle.judy_query.proofs.Splits.{rest_of, rest_more}

-- ---- lists of pairs

drop_there : (at : ℕ) (pairs : Pairs) (pair : ℕ × ℕ) → slice_get pairs at ≡ Some pair → drop at pairs ≡ pair ∷ drop (suc at) pairs
drop_there at [] pair there = cc
drop_there zero (first ∷ pairs) pair there = ap (λ p. p ∷ pairs) (same_Some first pair there)
drop_there (suc at) (first ∷ pairs) pair there = drop_there at pairs pair there

-- From a place on stands its pair, and then the others.
pub stretch_step : (base at next : ℕ) (pairs : Pairs) (key value : ℕ) → next ≡ suc at → slice_get pairs at ≡ Some (key, value) →
    shift base (drop at pairs) ≡ (base + key, value) ∷ shift base (drop next pairs)
stretch_step base at next pairs key value sum there =
    ap (shift base) (drop_there at pairs (key, value) there) ∙ ap (λ n. (base + key, value) ∷ shift base (drop n pairs)) (sym sum)

pub drop-shift : (by n : ℕ) (pairs : Pairs) → drop n (shift by pairs) ≡ shift by (drop n pairs)
drop-shift by n [] = drop_all n [] (omega arith) ∙ ap (shift by) (sym (drop_all n [] (omega arith)))
drop-shift by zero (pair ∷ pairs) = refl
drop-shift by (suc n) (pair ∷ pairs) = drop-shift by n pairs

-- From a key of a part on stand the part's pairs from what is left of the key on, and those behind it.
pub part-rest : (words top : ℕ) (tree : Pairs) (base unit left key : ℕ) (pairs front back : Pairs) → IsPart words top tree base unit pairs front back → key ≡ base + left → left ≤ unit
    → drop (rank (keys_of tree) key) tree ≡ shift base (drop (rank (keys_of pairs) left) pairs) ++ back
part-rest words top tree base unit left key pairs front back part sum within =
    let few = rank-le (keys_of pairs) left in
    let long = length-keys_of pairs in
    let same = length-shift base pairs in
    ap (λ n. drop n tree) (part-rank words top tree base unit left key pairs front back part sum within)
    ∙ ap (drop (length front + rank (keys_of pairs) left)) part.same
    ∙ drop-append-add front (shift base pairs ++ back) (rank (keys_of pairs) left)
    ∙ drop-append-le (rank (keys_of pairs) left) (shift base pairs) back (omega arith)
    ∙ ap (λ ps. ps ++ back) (drop-shift base (rank (keys_of pairs) left) pairs)

-- ---- turns

-- The last turn's pairs come first.
pub waiting-push : {V : _} (turns : List (Option (Turn V))) (turn : Option (Turn V)) → waiting (turns ++ turn ∷ []) ≡ rest_if_any turn ++ waiting turns
waiting-push [] turn = sym (append-nil (rest_if_any turn))
waiting-push (first ∷ turns) turn = ap (λ ps. ps ++ rest_if_any first) (waiting-push turns turn) ∙ append_assoc (rest_if_any turn) (waiting turns) (rest_if_any first)

pub turns-push : {V : _} (words before : ℕ) (turns : List (Option (Turn V))) (turn : Option (Turn V)) (all : ℕ) → all ≡ before + length turns → AreTurns words before turns →
    IsTurnBehind words all turn
    → AreTurns words before (turns ++ turn ∷ [])
turns-push words before [] turn all sum are is = (subst (λ n. IsTurnBehind words n turn) (let e : all ≡ before = omega arith in e) is, tt)
turns-push words before (first ∷ turns) turn all sum are is = (are.0, turns-push words (suc before) turns turn all (omega arith) are.1 is)

pub turns-pop : {V : _} (words before : ℕ) (turns : List (Option (Turn V))) (turn : Option (Turn V)) (all : ℕ) → all ≡ before + length turns → AreTurns words before (turns ++ turn ∷ [])
    → AreTurns words before turns × IsTurnBehind words all turn
turns-pop words before [] turn all sum are = (tt, subst (λ n. IsTurnBehind words n turn) (let e : before ≡ all = omega arith in e) are.0)
turns-pop words before (first ∷ turns) turn all sum are =
    let rest = turns-pop words (suc before) turns turn all (omega arith) are.1 in
    ((are.0, rest.0), rest.1)

module _ {V : _} (words : ℕ) (old new : List (Option (Turn V))) (last : Option (Turn V)) (taken : old ≡ new ++ last ∷ []) (are : AreTurns words 0 old) where
  apart : AreTurns words 0 new × IsTurnBehind words (length new) last
  apart = turns-pop words 0 new last (length new) (omega arith) (subst (AreTurns words 0) taken are)

  pub left_turns : AreTurns words 0 new
  left_turns = apart.0

  pub taken_pairs : MatchOption last ((waiting old ≡ []) × (waiting new ≡ [])) (λ turn. waiting old ≡ rest_of_turn turn ++ waiting new)
  taken_pairs = elim last as (λ turn. old ≡ new ++ turn ∷ [] → IsTurnBehind words (length new) turn →
      MatchOption turn ((waiting old ≡ []) × (waiting new ≡ [])) (λ turn. waiting old ≡ rest_of_turn turn ++ waiting new)) [
        | None ↦ λ is behind. absurd behind
        | Some turn ↦ λ is behind. ap waiting is ∙ waiting-push new (Some turn)
      ] taken apart.1

  pub taken_turn : MatchOption last (0 ≤ 0) (λ turn. IsTurn words turn × (length new + 1 + turn.branch.now.width ≤ 8) × IsFirst turn)
  taken_turn = elim last as (λ turn. IsTurnBehind words (length new) turn → MatchOption turn (0 ≤ 0) (λ turn. IsTurn words turn × (length new + 1 + turn.branch.now.width ≤ 8) × IsFirst turn)) [
    | None ↦ λ behind. absurd behind
    | Some turn ↦ λ behind. behind
  ] apart.1

-- ---- children

-- A branch has a child.
pub first_inside : (words width : ℕ) (skipped bytes : List ℕ) (kids : List Tree) (count : ℕ) → IsBranch words width skipped bytes kids count → 0 < length kids
first_inside words width skipped bytes kids count is =
    let long = children-length words width 0 bytes kids is.parts.children in
    let some = is.holds in
    omega arith

-- From the number of children on there is nothing.
pub rest_none : (words width : ℕ) (skipped bytes : List ℕ) (kids : List Tree) (count : ℕ) → IsBranch words width skipped bytes kids count → (place base : ℕ) (others : Pairs) → length kids ≤ place
    → others ≡ shift base (join (256 ^ width) (number_of skipped * 256) (drop place bytes) (drop place kids)) ++ others
rest_none words width skipped bytes kids count is place base others past =
    let long = children-length words width 0 bytes kids is.parts.children in
    ap (λ bs. shift base (join (256 ^ width) (number_of skipped * 256) bs (drop place kids)) ++ others) (sym (drop_all place bytes (omega arith)))

-- The child of a branch at a place, which was entered: where its keys begin, its pairs, and what is shown of it.
pub record IsEntered {V : _} (words width : ℕ) (skipped bytes : List ℕ) (kids : List Tree) (count place start : ℕ) (kid : Tree) (next : ViewOf V) : Type 0 where
  pub is : IsBranch words width skipped bytes kids count
  pub inside : place < length kids
  pub from : IsStart (256 ^ width) (number_of skipped * 256) bytes place start
  pub same : kid ≡ get_or kids place kid
  pub view : IsView words width kid next

pub entered_of : {V : _} {words width : ℕ} {skipped bytes : List ℕ} {kids : List Tree} {count place start byte : ℕ} {kid : Tree} {next : ViewOf V} →
    IsBranch words width skipped bytes kids count → place < length kids
    → slice_get bytes place ≡ Some byte → start ≡ (number_of skipped * 256 + byte) * 256 ^ width → kid ≡ get_or kids place kid → IsView words width kid next
    → IsEntered words width skipped bytes kids count place start kid next
entered_of {V} {words} {width} {skipped} {bytes} {kids} {count} {place} {start} {byte} is inside there begins same view =
    record { is = is; inside = inside; from = (byte, there, begins); same = same; view = view }

module _ {V : _} {words width : ℕ} {skipped bytes : List ℕ} {kids : List Tree} {count place start : ℕ} {kid : Tree} {next : ViewOf V}
    (it : IsEntered words width skipped bytes kids count place start kid next) where
  child : IsChild words width kid
  child = kid_is words width skipped bytes kids count it.is 0 place kid it.inside it.same

  pub entered_width : width_of next ≡ width
  entered_width =
      let some = child.some in
      view_width words width kid next (λ (none : length kid.pairs ≡ 0). let never : ⊥ = omega arith in absurd never) it.view

  pub entered_shown : IsShown words next
  entered_shown = is_shown words width kid next child.low_width child.high_width entered_width it.view

  pub entered_some : 0 < length (view_pairs next)
  entered_some = subst (λ ps. 0 < length ps) it.view.pairs child.some

  pub entered_fits : (base : ℕ) → base + 256 ^ (length skipped + 1 + width) ≤ 256 ^ 8 → base + start + 256 ^ width_of next ≤ 256 ^ 8
  entered_fits base fits =
      let room = start_room words width skipped bytes kids count place start it.is it.inside it.from in
      subst (λ w. base + start + 256 ^ w ≤ 256 ^ 8) (sym entered_width) (omega arith)

  -- From the child on stand its pairs, then those of the children behind it.
  pub entered_pairs : (base : ℕ) (others : Pairs) → shift base (rest_of (256 ^ width) (number_of skipped * 256) bytes kids place) ++ others
      ≡ shift (base + start) (view_pairs next) ++ (shift base (rest_of (256 ^ width) (number_of skipped * 256) bytes kids (suc place)) ++ others)
  entered_pairs base others =
      let unit = 256 ^ width in
      let block = number_of skipped * 256 in
      let from = it.from in
      let first = shift ((block + from.0) * unit) kid.pairs in
      let rest = rest_of unit block bytes kids (suc place) in
      ap (λ ps. shift base ps ++ others) (rest_more unit block bytes kids from.0 place kid from.1 (slice_get-get_or kids place kid it.inside ∙ ap Some (sym it.same)))
      ∙ ap (λ ps. ps ++ others) (shift-append base first rest)
      ∙ append_assoc (shift base first) (shift base rest) others
      ∙ ap (λ ps. ps ++ (shift base rest ++ others)) (shift-shift base ((block + from.0) * unit) (base + start) kid.pairs (ap (λ n. base + n) from.2) ∙ ap (shift (base + start)) it.view.pairs)

-- A walk has come to a node, from where its keys begin, and keeps turns: these are all the pairs that are left to it.
pub record IsWalked {V : _} (words : ℕ) (view : ViewOf V) (base : ℕ) (kept : List (Option (Turn V))) (all : Pairs) : Type 0 where
  pub shown : IsShown words view
  pub fits : base + 256 ^ width_of view ≤ 256 ^ 8
  pub some : 0 < length (view_pairs view)
  pub turns : AreTurns words 0 kept
  pub room : length kept + width_of view ≤ 8
  pub pairs : shift base (view_pairs view) ++ waiting kept ≡ all

-- It goes on to the first child of a branch, and keeps the others.
pub walked_child : {V : _} (words : ℕ) (b : _) (base : ℕ) (turns : List (Option (Turn V))) (all : Pairs) → IsWalked words (Branch b) base turns all
    → (start : ℕ) → IsStart (256 ^ b.now.width) (number_of b.now.skip * 256) b.now.bytes 0 start → (kid : Tree) → kid ≡ get_or b.now.children.items 0 kid
    → (next : ViewOf V) → IsView words b.now.width kid next → (kept : List (Option (Turn V))) → AreTurns words 0 kept
    → waiting kept ≡ shift base (rest_of (256 ^ b.now.width) (number_of b.now.skip * 256) b.now.bytes b.now.children.items 1) ++ waiting turns
    → length kept ≤ length turns + 1 → IsWalked words next (base + start) kept all
walked_child words b base turns all walked start from kid same next view kept are pairs one =
    let is = walked.shown.place.1 in
    let inside = first_inside words b.now.width b.now.skip b.now.bytes b.now.children.items b.now.population is in
    let entered = entered_of is inside from.1 from.2 same view in
    let wide = entered_width entered in
    let room = walked.room in
    record {
      shown = entered_shown entered;
      fits = entered_fits entered base walked.fits;
      some = entered_some entered;
      turns = are;
      room = omega arith;
      pairs = ap (λ ps. shift (base + start) (view_pairs next) ++ ps) pairs ∙ sym (entered_pairs entered base (waiting turns)) ∙ walked.pairs;
    }
