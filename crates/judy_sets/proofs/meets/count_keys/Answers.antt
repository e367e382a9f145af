use Rattle.std.proofs.Common.{ℕ, ◌+◌, ◌*◌, ◌^◌, ◌≤◌, sym, ap, ◌∙◌, subst, arith}
use Rattle.std.proofs.Math.Nat.{pow-le-pow_right}
use Rattle.judy_node.specs.Views.{view_pairs, IsPlace}
use Rattle.judy_query.specs.Parts.{width_of}
use Rattle.judy_sets.specs.Meets.{found}
use Rattle.judy_sets.proofs.LotFacts.{front_word, front_within, leaf_map}
use Rattle.judy_sets.proofs.MeetFacts.{found-level}
use Rattle.judy_sets.proofs.meets.count_keys.Goals as goal

pub overflow_mul-front : goal.overflow_mul-front
overflow_mul-front g c =
    let most = front_word g.V.Words.WORDS c.args.one.now c.in-BitLeaf.front c.in-BitLeaf.bits c.in-BitLeaf.is c.requires.shown in
    omega arith

pub overflow_mul-other_front : goal.overflow_mul-other_front
overflow_mul-other_front g c =
    let most = front_word g.V.Words.WORDS c.args.other.now c.in-BitLeaf-other.other_front c.in-BitLeaf-other.others c.in-BitLeaf-other.is c.requires.other_shown in
    omega arith

pub overflow_add-by : goal.overflow_add-by
overflow_add-by g c =
    let within = front_within g.V.Words.WORDS c.args.one.now c.in-BitLeaf.front c.in-BitLeaf.bits c.in-BitLeaf.is c.requires.shown in
    let most : 256 ^ width_of c.args.other.now ≤ 256 ^ 8 = pow-le-pow_right {n = 256} (omega arith) c.requires.other_shown.narrow in
    let fits = c.requires.fits in
    omega arith

pub returns-then-by-front : goal.returns-then-by-front
returns-then-by-front g c =
    let words = g.V.Words.WORDS in
    let wanted = c.args.sought.wanted in
    let place = subst (λ v. IsPlace words (width_of v) v) c.in-BitLeaf.is c.requires.shown.place in
    c.count_bits.ensures
    ∙ sym (found-level wanted words c.args.by (c.in-BitLeaf.front * 256) (c.in-BitLeaf-other.other_front * 256) c.in-BitLeaf.bits.pairs c.in-BitLeaf-other.others.pairs place.2
    c.if-by-front.true)
    ∙ (λ t. found wanted c.args.by (view_pairs (sym c.in-BitLeaf.is t)) (view_pairs (sym c.in-BitLeaf-other.is t)))

pub count_leaves-requires-clause-map : goal.count_leaves-requires-clause-map
count_leaves-requires-clause-map g c = leaf_map g.V.Words.WORDS c.args.one.now c.in-Leaf.list c.in-Leaf.is c.requires.shown

pub count_leaves-requires-clause-other_map : goal.count_leaves-requires-clause-other_map
count_leaves-requires-clause-other_map g c = leaf_map g.V.Words.WORDS c.args.other.now c.in-Leaf-other.other_list c.in-Leaf-other.is c.requires.other_shown

pub count_leaves-requires-clause-fits : goal.count_leaves-requires-clause-fits
count_leaves-requires-clause-fits g c =
    let ours = ap width_of c.in-Leaf.is in
    let theirs = ap width_of c.in-Leaf-other.is in
    subst (λ (w : ℕ). c.args.by + 256 ^ w ≤ 256 ^ c.in-Leaf-other.other_list.width) ours (subst (λ (w : ℕ). c.args.by + 256 ^ width_of c.args.one.now ≤ 256 ^ w) theirs c.requires.fits)

pub returns-in-Leaf-other : goal.returns-in-Leaf-other
returns-in-Leaf-other g c =
    c.count_leaves.ensures ∙ (λ t. found c.args.sought.wanted c.args.by (view_pairs (sym c.in-Leaf.is t)) (view_pairs (sym c.in-Leaf-other.is t)))
