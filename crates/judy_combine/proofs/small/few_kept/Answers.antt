use Rattle.std.proofs.Common.{◌≤◌, IfOk, sym, ◌∙◌, subst, arith}
use Rattle.std.proofs.lemmas.List.{length-take-le}
use Rattle.judy_change.proofs.SettleFacts.{word_fits, filled}
use Rattle.judy_combine.specs.Kept.{IsKept}
use Rattle.judy_combine.specs.Merges.{Pairs}
use Rattle.judy_combine.proofs.SmallFacts.{both_ready}
use Rattle.judy_combine.proofs.small.few_kept.Goals as goal

pub fill-requires : goal.fill-requires
fill-requires g c =
    let small = c.requires.few in
    let few : c.pop-ours.result ≤ 32 = omega (arith, c.pop-ours.ensures) in
    (omega arith, (c.requires.child, (length-take-le c.pop-ours.result _ few ∙ c.pop-ours.ensures, word_fits c.args.width c.requires.child.high_width)))

pub fill-requires-2 : goal.fill-requires-2
fill-requires-2 g c =
    let small = c.requires.other_few in
    let few : c.pop-theirs.result ≤ 32 = omega (arith, c.pop-theirs.ensures) in
    (omega arith, (c.requires.other_child, (length-take-le c.pop-theirs.result _ few ∙ c.pop-theirs.ensures, word_fits c.args.width c.requires.other_child.high_width)))

pub pairs_kept-requires : goal.pairs_kept-requires
pairs_kept-requires g c =
    let ours = filled c.pop-ours.result c.fill.new.out _ c.args.one.now.pairs (sym c.pop-ours.ensures) c.fill.ensures in
    let theirs = filled c.pop-theirs.result c.fill-2.new.out _ c.args.other.now.pairs (sym c.pop-theirs.ensures) c.fill-2.ensures in
    let few = c.requires.few in
    let other_few = c.requires.other_few in (
      omega arith,
      (
        c.requires.one,
        (
          (c.requires.child.low_width, c.requires.width),
          both_ready g.V.Words.WORDS c.args.width c.args.one.now.pairs c.args.other.now.pairs _ _ 64 ours theirs c.requires.child.map c.requires.other_child.map (omega arith),
        ),
      ),
    )

pub returns : goal.returns
returns g c =
    let ours = filled c.pop-ours.result c.fill.new.out _ c.args.one.now.pairs (sym c.pop-ours.ensures) c.fill.ensures in
    let theirs = filled c.pop-theirs.result c.fill-2.new.out _ c.args.other.now.pairs (sym c.pop-theirs.ensures) c.fill-2.ensures in
    subst (λ (p : Pairs × Pairs). IfOk c.pairs_kept.result (IsKept g.V.Words.WORDS c.args.width c.args.keep p.0 p.1)) (λ t. (ours t, theirs t)) c.pairs_kept.ensures
