use Rattle.std.proofs.Common.{length, drop, ap, refl, ◌∙◌, arith}
use Rattle.std.proofs.lemmas.List.{take-append-le, take_all}
use Rattle.judy_node.proofs.Maps.{length-shift, shift-zero}
use Rattle.judy_change.proofs.SettleFacts.{word_fits}
use Rattle.judy_combine.proofs.small.gathered.Goals as goal

pub fill-requires : goal.fill-requires
fill-requires g c =
    let long = c.in_ok-pairs.ensures.len in
    let pop = c.pop.ensures in
    let held = c.in_ok-pairs.pairs.ok.0 in
    let same = ap length c.deref_mut.ensures.value in
    (omega arith, (c.requires, (omega arith, word_fits c.args.width c.requires.high_width)))

pub returns : goal.returns
returns g c =
    let many = ap length c.fill.ensures ∙ length-shift 0 c.args.child.now.pairs in
    let long = c.in_ok-pairs.ensures.len in
    let pop = c.pop.ensures in
    let n = c.in_ok-pairs.pairs.len in
    take-append-le n c.fill.new.out (drop (length c.fill.new.out) c.in_ok-pairs.pairs.items) (omega arith)
    ∙ take_all n c.fill.new.out (omega arith)
    ∙ c.fill.ensures ∙ shift-zero 0 c.args.child.now.pairs refl
