use Rattle.std.proofs.Common.{◌≡◌, ◌≤◌, ⊎_elim, length, ap, subst, arith, IfOk}
use Rattle.std.proofs.lemmas.Bool.{cases_eq}
use Rattle.std.proofs.lemmas.List.{length_push}
use Rattle.judy_node.specs.Trees.{Pairs}
use Rattle.judy_node.specs.Kinds.{tree_of}
use Rattle.judy_node.specs.Built.{IsBuilt}
use Rattle.judy_node.proofs.Maps.{length-shift}
use Rattle.judy_change.proofs.Added.{unit_fits, filled, more-low}
use Rattle.judy_change.proofs.PairPlaces.{rank-most}
use Rattle.judy_change.proofs.leaves.past_leaf.Goals as goal

pub fill-requires-clause-fits : goal.fill-requires-clause-fits
fill-requires-clause-fits g c =
    let most = c.requires.child.high_width in
    let small : c.args.full.width ≤ 8 = ⊎_elim (λ (none : c.args.full.width ≡ 0). omega arith) (λ apart. let told = c.requires.child.wide apart in omega arith) (cases_eq c.args.full.width 0) in
    let fits = unit_fits c.args.full.width small in
    omega arith

pub put_at-requires : goal.put_at-requires
put_at-requires g c =
    let most = rank-most c.args.pair.key c.args.full.pairs in
    let place = c.requires.place in
    let full = c.requires.full in
    let filled = ap length c.fill.ensures in
    let moved = length-shift 0 c.args.full.pairs in
    let long = length_push c.fill.new.out (0, 0) in
    omega arith

-- The pairs that the new node is made of.
pub kind_of_sorted-requires-clause-map : goal.kind_of_sorted-requires-clause-map
kind_of_sorted-requires-clause-map g c =
    more-low g.V.Words.WORDS c.args.width c.args.pair.key c.args.pair.value c.args.full.pairs c.requires.child.map c.requires.absent c.requires.fits c.requires.no_value c.put_at.new.pairs
    (filled c.fill.new.out c.args.full.pairs c.put_at.new.pairs c.args.pair.key c.args.pair.value c.args.at (0, 0) c.fill.ensures c.requires.place c.put_at.ensures)

pub returns-clause-built : goal.returns-clause-built
returns-clause-built g c =
    subst (λ (ps : Pairs). IfOk c.kind_of_sorted.result (λ kind. IsBuilt g.V.Words.WORDS c.args.width ps (tree_of g.V.Words.WORDS kind)))
    (filled c.fill.new.out c.args.full.pairs c.put_at.new.pairs c.args.pair.key c.args.pair.value c.args.at (0, 0) c.fill.ensures c.requires.place c.put_at.ensures) c.kind_of_sorted.ensures.built
