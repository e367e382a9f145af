-- The pairs of the child that a turn leads to, among those of its branch.
use Rattle.std.proofs.Common.{◌≡◌, ℕ, zero, suc, ◌+◌, ◌-◌, ◌*◌, ◌^◌, ◌<◌, ◌≤◌, List, [], ◌∷◌, ◌++◌, length, take, drop, get_or, Option, Some, slice_get, sym, refl, ap, ◌∙◌, arith, length-append}
use Rattle.std.specs.Option.{option_or}
use Rattle.std.proofs.lemmas.List.{append-nil, drop_all}
use Rattle.std.proofs.lemmas.Option.{same_Some, slice_get-get_or}
use Rattle.judy_model.specs.WordBytes.{number_of}
use Rattle.judy_leaf.specs.KeyLists.{shift}
use Rattle.judy_node.specs.Trees.{Pairs, Tree, join, IsBranch}
use Rattle.judy_node.proofs.Maps.{children-length, length-shift, shift-append, shift-shift}
use Rattle.judy_query.specs.Parts.{IsStart}
use Rattle.judy_query.specs.Turns.{last_pair}
use Rattle.judy_query.proofs.Downs.{byte_there, kid_some}
use Rattle.judy_query.proofs.RankFacts.{at-behind}
use Rattle.judy_query.proofs.Splits.{first_of, rest_of, rest_more, first_more}

one_there : {X : Type 0} (xs : List X) (place : ℕ) (x : X) → slice_get xs place ≡ Some x → take 1 (drop place xs) ≡ x ∷ []
one_there [] place x there = cc
one_there (y ∷ xs) zero x there = ap (λ z. z ∷ []) (same_Some y x there)
one_there (y ∷ xs) (suc place) x there = one_there xs place x there

some_first : (o other : Option (ℕ × ℕ)) (x : ℕ × ℕ) → o ≡ Some x → option_or o other ≡ o
some_first o other x is = ap (λ p. option_or p other) is ∙ sym is

head_first : (pairs rest : Pairs) (other : Option (ℕ × ℕ)) → 0 < length pairs → option_or (slice_get (pairs ++ rest) 0) other ≡ slice_get pairs 0
head_first [] rest other some = let never : ⊥ = omega arith in absurd never
head_first (pair ∷ pairs) rest other some = refl

last_first : (front pairs : Pairs) (other : Option (ℕ × ℕ)) → 0 < length pairs → option_or (last_pair (front ++ pairs)) other ≡ last_pair pairs
last_first front pairs other some =
    let both = length-append front pairs in
    let default : ℕ × ℕ = (0, 0) in
    let same : last_pair (front ++ pairs) ≡ last_pair pairs = at-behind (length pairs - 1) (length (front ++ pairs) - 1) front pairs (omega arith) in
    some_first (last_pair (front ++ pairs)) other (get_or pairs (length pairs - 1) default) (same ∙ slice_get-get_or pairs (length pairs - 1) default (omega arith)) ∙ same

module _ (words width : ℕ) (skipped bytes : List ℕ) (kids : List Tree) (count : ℕ) (is : IsBranch words width skipped bytes kids count) (place base : ℕ) where
  module _ (kid : Tree) (inside : place < length kids) (same : kid ≡ get_or kids place kid) where
    there : slice_get kids place ≡ Some kid
    there = slice_get-get_or kids place kid inside ∙ ap Some (sym same)

    -- They are the child's, from where its keys begin.
    pub turn_is : (start : ℕ) → IsStart (256 ^ width) (number_of skipped * 256) bytes place start
        → shift base (join (256 ^ width) (number_of skipped * 256) (take 1 (drop place bytes)) (take 1 (drop place kids))) ≡ shift (base + start) kid.pairs
    turn_is start from =
        let unit = 256 ^ width in
        let block = number_of skipped * 256 in
        (λ t. shift base (join unit block (one_there bytes place from.0 from.1 t) (one_there kids place kid there t)))
        ∙ ap (shift base) (append-nil (shift ((block + from.0) * unit) kid.pairs) ∙ ap (λ n. shift n kid.pairs) (sym from.2))
        ∙ shift-shift base start (base + start) kid.pairs refl

    pub turn_long : length (shift base (join (256 ^ width) (number_of skipped * 256) (take 1 (drop place bytes)) (take 1 (drop place kids)))) ≡ length kid.pairs
    turn_long =
        let start = (number_of skipped * 256 + get_or bytes place 0) * 256 ^ width in
        ap length (turn_is start (get_or bytes place 0, byte_there words width skipped bytes kids count is 0 place inside, refl)) ∙ length-shift (base + start) kid.pairs

    one_start : IsStart (256 ^ width) (number_of skipped * 256) bytes place ((number_of skipped * 256 + get_or bytes place 0) * 256 ^ width)
    one_start = (get_or bytes place 0, byte_there words width skipped bytes kids count is 0 place inside, refl)

    -- The first of the pairs from the place on is theirs.
    pub turn_later : (other : Option (ℕ × ℕ)) → option_or (slice_get (shift base (join (256 ^ width) (number_of skipped * 256) (drop place bytes) (drop place kids))) 0) other
        ≡ slice_get (shift base (join (256 ^ width) (number_of skipped * 256) (take 1 (drop place bytes)) (take 1 (drop place kids)))) 0
    turn_later other =
        let unit = 256 ^ width in
        let block = number_of skipped * 256 in
        let byte = get_or bytes place 0 in
        let start = (block + byte) * unit in
        let rest = rest_of unit block bytes kids (suc place) in
        let some = kid_some words width skipped bytes kids count is 0 place kid inside same in
        let long = length-shift (base + start) kid.pairs in
        let more : shift base (rest_of unit block bytes kids place) ≡ shift (base + start) kid.pairs ++ shift base rest =
        ap (shift base) (rest_more unit block bytes kids byte place kid (byte_there words width skipped bytes kids count is 0 place inside) there) ∙ shift-append base (shift start kid.pairs) rest
        ∙ ap (λ ps. ps ++ shift base rest) (shift-shift base start (base + start) kid.pairs refl) in
        ap (λ ps. option_or (slice_get ps 0) other) more ∙ head_first (shift (base + start) kid.pairs) (shift base rest) other (omega arith) ∙ ap (λ ps. slice_get ps 0) (sym (turn_is start one_start))

    -- The last of the pairs up to the place is theirs.
    pub turn_earlier : (other : Option (ℕ × ℕ)) → option_or (last_pair (shift base (join (256 ^ width) (number_of skipped * 256) (take (suc place) bytes) (take (suc place) kids)))) other
        ≡ last_pair (shift base (join (256 ^ width) (number_of skipped * 256) (take 1 (drop place bytes)) (take 1 (drop place kids))))
    turn_earlier other =
        let unit = 256 ^ width in
        let block = number_of skipped * 256 in
        let byte = get_or bytes place 0 in
        let start = (block + byte) * unit in
        let first = first_of unit block bytes kids place in
        let some = kid_some words width skipped bytes kids count is 0 place kid inside same in
        let long = length-shift (base + start) kid.pairs in
        let more : shift base (first_of unit block bytes kids (suc place)) ≡ shift base first ++ shift (base + start) kid.pairs =
        ap (shift base) (first_more unit block bytes kids byte place kid (byte_there words width skipped bytes kids count is 0 place inside) there) ∙ shift-append base first (shift start kid.pairs)
        ∙ ap (λ ps. shift base first ++ ps) (shift-shift base start (base + start) kid.pairs refl) in
        ap (λ ps. option_or (last_pair ps) other) more ∙ last_first (shift base first) (shift (base + start) kid.pairs) other (omega arith) ∙ ap last_pair (sym (turn_is start one_start))

  -- From the number of children on there is nothing.
  pub turn_none : length kids ≤ place → (other : Option (ℕ × ℕ)) → option_or (slice_get (shift base (join (256 ^ width) (number_of skipped * 256) (drop place bytes) (drop place kids))) 0)
      other ≡ other
  turn_none past other =
      let long = children-length words width 0 bytes kids is.parts.children in
      ap (λ bs. option_or (slice_get (shift base (join (256 ^ width) (number_of skipped * 256) bs (drop place kids))) 0) other) (drop_all place bytes (omega arith))

  read_again : (kids : List Tree) (at : ℕ) (one other : Tree) → at < length kids → get_or kids at one ≡ get_or kids at other
  read_again [] at one other inside = let never : ⊥ = omega arith in absurd never
  read_again (k ∷ kids) zero one other inside = refl
  read_again (k ∷ kids) (suc at) one other inside = read_again kids at one other (omega arith)

  no_tree : Tree
  no_tree = record { width = 0; pairs = []; form = [] }

  -- There are some.
  pub turn_some : place < length kids → 0 < length (shift base (join (256 ^ width) (number_of skipped * 256) (take 1 (drop place bytes)) (take 1 (drop place kids))))
  turn_some inside =
      let same = read_again kids place no_tree (get_or kids place no_tree) inside in
      let long = turn_long (get_or kids place no_tree) inside same in
      let some = kid_some words width skipped bytes kids count is 0 place (get_or kids place no_tree) inside same in
      omega arith

  pub turn_later_there : (inside : place < length kids) (other : Option (ℕ × ℕ)) → option_or (slice_get
      (shift base (join (256 ^ width) (number_of skipped * 256) (drop place bytes) (drop place kids))) 0) other
      ≡ slice_get (shift base (join (256 ^ width) (number_of skipped * 256) (take 1 (drop place bytes)) (take 1 (drop place kids)))) 0
  turn_later_there inside other = turn_later (get_or kids place no_tree) inside (read_again kids place no_tree (get_or kids place no_tree) inside) other

  pub turn_earlier_there : (inside : place < length kids) (passed : ℕ) → passed ≡ suc place → (other : Option (ℕ × ℕ))
      → option_or (last_pair (shift base (join (256 ^ width) (number_of skipped * 256) (take passed bytes) (take passed kids)))) other
      ≡ last_pair (shift base (join (256 ^ width) (number_of skipped * 256) (take 1 (drop place bytes)) (take 1 (drop place kids))))
  turn_earlier_there inside passed next other =
      ap (λ n. option_or (last_pair (shift base (join (256 ^ width) (number_of skipped * 256) (take n bytes) (take n kids)))) other) next
      ∙ turn_earlier (get_or kids place no_tree) inside (read_again kids place no_tree (get_or kids place no_tree) inside) other

-- In front of the first child there is nothing.
pub turn_none_before : (width : ℕ) (skipped bytes : List ℕ) (kids : List Tree) (passed base : ℕ) → passed ≡ 0 → (other : Option (ℕ × ℕ))
    → option_or (last_pair (shift base (join (256 ^ width) (number_of skipped * 256) (take passed bytes) (take passed kids)))) other ≡ other
turn_none_before width skipped bytes kids passed base first other =
    ap (λ n. option_or (last_pair (shift base (join (256 ^ width) (number_of skipped * 256) (take n bytes) (take n kids)))) other) first
