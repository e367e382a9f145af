use Rattle.std.proofs.Common.{length, ap, ◌∙◌, subst, arith}
use Rattle.judy_combine.specs.Kept.{IsKept}
use Rattle.judy_combine.specs.Merges.{Pairs}
use Rattle.judy_combine.proofs.SmallFacts.{both_ready}
use Rattle.judy_combine.proofs.small.small_kept.Goals as goal

pub pairs_kept-requires : goal.pairs_kept-requires
pairs_kept-requires g c =
    let ours = c.deref.ensures.value ∙ c.in_ok-left.ensures in
    let theirs = c.deref-2.ensures.value ∙ c.in_ok-right.ensures in
    let held = c.in_ok-left.left.ok.0 in
    let other_held = c.in_ok-right.right.ok.0 in
    let out_held = c.in_ok-out.out.ok.0 in
    let room = c.in_ok-out.ensures.len in
    let place = ap length c.deref_mut.ensures.value in
    let one = ap length c.in_ok-left.ensures in
    let other = ap length c.in_ok-right.ensures in (
      omega arith,
      (
        c.requires.one,
        (
          (c.requires.child.low_width, c.requires.width),
          both_ready g.V.Words.WORDS c.args.width c.args.one.now.pairs c.args.other.now.pairs _ _ (length c.deref_mut.result.now) ours theirs
              c.requires.child.map c.requires.other_child.map (omega arith),
        ),
      ),
    )

pub returns : goal.returns
returns g c =
    let ours = c.deref.ensures.value ∙ c.in_ok-left.ensures in
    let theirs = c.deref-2.ensures.value ∙ c.in_ok-right.ensures in
    subst (λ (p : Pairs × Pairs). IsKept g.V.Words.WORDS c.args.width c.args.keep p.0 p.1 c.in_ok-made.made) (λ t. (ours t, theirs t)) c.in_ok-made.ensures
