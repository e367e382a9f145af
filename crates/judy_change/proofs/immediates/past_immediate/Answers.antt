use Rattle.std.proofs.Common.{◌≡◌, ℕ, false, true≢false, ◌||◌, [], ◌∷◌, length, get_or, sym, ap, ◌∙◌, subst, arith, IfOk}
use Rattle.std.proofs.lemmas.Bool.{eq-eqb}
use Rattle.judy_bits.specs.ByteSets.{has}
use Rattle.judy_leaf.specs.KeyLists.{keys_of, values_of, with_pair}
use Rattle.judy_node.specs.Trees.{Pairs}
use Rattle.judy_node.specs.Kinds.{tree_of}
use Rattle.judy_node.specs.Built.{IsBuilt}
use Rattle.judy_change.proofs.Added.{more-map, more-low}
use Rattle.judy_change.proofs.immediates.past_immediate.Goals as goal

-- The only pair of a list, by its key and its value.
only_pair : (pairs : Pairs) (key value : ℕ) → length pairs ≡ 1 → key ≡ get_or (keys_of pairs) 0 0 → value ≡ get_or (values_of pairs) 0 0 → pairs ≡ (key, value) ∷ []
only_pair [] key value one first held = absurd (omega arith)
only_pair (pair ∷ []) key value one first held = λ t. (sym first t, sym held t) ∷ []
only_pair (pair ∷ more ∷ pairs) key value one first held = absurd (omega arith)

-- Two pairs are those of the list and one more.
both_are : (list both : Pairs) (key value only held : ℕ) → length list ≡ 1 → only ≡ get_or (keys_of list) 0 0 → held ≡ get_or (values_of list) 0 0 →
    both ≡ with_pair key value ((only, held) ∷ []) → both ≡ with_pair key value list
both_are list both key value only held one first there put = put ∙ ap (with_pair key value) (sym (only_pair list only held one first there))

-- A key that isn't the only one is another.
apart : (pairs : Pairs) (only key : ℕ) → length pairs ≡ 1 → only ≡ get_or (keys_of pairs) 0 0 → has (keys_of pairs) key ≡ false → only ≡ key → ⊥
apart [] only key one first absent same = absurd (omega arith)
apart (pair ∷ pairs) only key one first absent same = true≢false (sym (ap (λ b. b || has (keys_of pairs) key) (eq-eqb pair.0 key (sym first ∙ same))) ∙ absent)

pub in_order-requires : goal.in_order-requires
in_order-requires g c =
    let one = c.if-len-ne1.false in
    let counted = c.len.ensures.count in
    apart c.args.full.now.pairs c.key_at.result c.args.pair.key (omega arith) c.key_at.ensures c.requires.absent

pub leaf_of_two-requires-clause-below_low : goal.leaf_of_two-requires-clause-below_low
leaf_of_two-requires-clause-below_low g c =
    let list = c.args.full.now.pairs in
    let one = c.if-len-ne1.false in
    let counted = c.len.ensures.count in
    let pairs : Pairs = c.in_order.result.0 ∷ c.in_order.result.1 ∷ [] in
    let both = both_are list pairs c.args.pair.key c.args.pair.value c.key_at.result c.value_at.result (omega arith) c.key_at.ensures c.value_at.ensures c.in_order.ensures in
    (more-map g.V.Words.WORDS c.args.width c.args.pair.key c.args.pair.value list c.requires.map c.requires.absent c.requires.fits c.requires.no_value pairs both).1

pub leaf_of_two-requires-clause-below_high : goal.leaf_of_two-requires-clause-below_high
leaf_of_two-requires-clause-below_high g c =
    let list = c.args.full.now.pairs in
    let one = c.if-len-ne1.false in
    let counted = c.len.ensures.count in
    let pairs : Pairs = c.in_order.result.0 ∷ c.in_order.result.1 ∷ [] in
    let both = both_are list pairs c.args.pair.key c.args.pair.value c.key_at.result c.value_at.result (omega arith) c.key_at.ensures c.value_at.ensures c.in_order.ensures in
    (more-map g.V.Words.WORDS c.args.width c.args.pair.key c.args.pair.value list c.requires.map c.requires.absent c.requires.fits c.requires.no_value pairs both).3.1

pub leaf_of_two-requires-clause-map : goal.leaf_of_two-requires-clause-map
leaf_of_two-requires-clause-map g c =
    let list = c.args.full.now.pairs in
    let one = c.if-len-ne1.false in
    let counted = c.len.ensures.count in
    let pairs : Pairs = c.in_order.result.0 ∷ c.in_order.result.1 ∷ [] in
    let both = both_are list pairs c.args.pair.key c.args.pair.value c.key_at.result c.value_at.result (omega arith) c.key_at.ensures c.value_at.ensures c.in_order.ensures in
    more-low g.V.Words.WORDS c.args.width c.args.pair.key c.args.pair.value list c.requires.map c.requires.absent c.requires.fits c.requires.no_value pairs both

pub returns-clause-built : goal.returns-clause-built
returns-clause-built g c =
    let list = c.args.full.now.pairs in
    let one = c.if-len-ne1.false in
    let counted = c.len.ensures.count in
    let pairs : Pairs = c.in_order.result.0 ∷ c.in_order.result.1 ∷ [] in
    let both = both_are list pairs c.args.pair.key c.args.pair.value c.key_at.result c.value_at.result (omega arith) c.key_at.ensures c.value_at.ensures c.in_order.ensures in
    subst (λ (ps : Pairs). IfOk c.leaf_of_two.result (λ kind. IsBuilt g.V.Words.WORDS c.args.width ps (tree_of g.V.Words.WORDS kind))) both c.leaf_of_two.ensures.built
