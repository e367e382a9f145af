use Rattle.std.proofs.Common.{◌+◌, ◌*◌, ◌^◌, ◌<◌, Ok, refl, sym, ◌∙◌, subst, arith}
use Rattle.std.specs.declared.alloc.AllocError.{AllocError}
use Rattle.judy_model.specs.WordBytes.{number_of}
use Rattle.judy_node.specs.Kinds.{tree_of, IsLevel}
use Rattle.judy_node.specs.Steps.{IsStep}
use Rattle.judy_node.specs.declared.step.Step.TheVariants.{Missing}
use Rattle.judy_node.proofs.Counts.{branch_population}
use Rattle.judy_change.specs.Inserted.{IsAdded, IsInserted}
use Rattle.judy_node.specs.Branches.{tree_below}
use Rattle.judy_change.proofs.InsertFacts.{still_child, missing_room, missing_absent, past_apart, apart_absent}
use Rattle.judy_change.proofs.KidInserts.{place_within, kid_of, kid_within, kid_child, kid_has, kid_room, kid_same, kid_branch, kid_added, kid_spare, kid_grown}
use Rattle.judy_change.proofs.GivenValues.{added_absent, kid_there_put, kid_there_branch, kid_there_sums}
use Rattle.judy_change.proofs.way_down.+put.Goals as goal

pub put_in_child-index_mut-requires : goal.put_in_child-index_mut-requires
put_in_child-index_mut-requires g t c =
    let b = c.args.branch.now in
    let within = place_within c.requires.level c.requires.here in
    let held = b.children.ok.0 in
    omega arith

pub put_in_child-put_in-requires : goal.put_in_child-put_in-requires
put_in_child-put_in-requires g t c κs within =
    let kid = kid_of c.requires.level c.requires.fits c.requires.here c.index_mut.ensures.value in
    let falls = c.decreases in (
      omega arith,
      (
        within.0,
        (
          within.1,
          (
            omega arith,
            (
              c.requires.one,
              (
                c.requires.words,
                (
                  kid_child kid,
                  (c.requires.fits, (c.requires.no_value, kid_room kid c.requires.room)),
                ),
              ),
            ),
          ),
        ),
      ),
    )

pub put_in_child-overflow_add-branch : goal.put_in_child-overflow_add-branch
put_in_child-overflow_add-branch g t c =
    let kid = kid_of c.requires.level c.requires.fits c.requires.here c.index_mut.ensures.value in
    let added = c.in-Added.ensures.put in
    let spare = kid_spare kid c.args.pair.value c.put_in.new.child added c.requires.room in
    omega arith

pub put_in_child-add-requires : goal.put_in_child-add-requires
put_in_child-add-requires g t c =
    let b = c.args.branch.now in
    let kid = kid_of c.requires.level c.requires.fits c.requires.here c.index_mut.ensures.value in
    let added = c.in-Added.ensures.put in
    let spare = kid_spare kid c.args.pair.value c.put_in.new.child added c.requires.room in
    let all = branch_population g.V.Words.WORDS b.width b.skip b.bytes b.children.items b.population c.requires.level in
    (b.children.items, c.requires.sums, kid_within kid, subst (λ n. n < 18446744073709551615) all spare)

pub put_in_child-returns-in-Added : goal.put_in_child-returns-in-Added
put_in_child-returns-in-Added g t c =
    let kid = kid_of c.requires.level c.requires.fits c.requires.here c.index_mut.ensures.value in
    let added = c.in-Added.ensures.put in
    let b = c.args.branch.now in
    record {
      level = kid_branch kid c.args.pair.value c.put_in.new.child added c.in-Added.ensures.child;
      sums = c.add.ensures b.children.items c.put_in.new.child c.requires.sums
          (kid_within kid) (kid_grown kid c.args.pair.value c.put_in.new.child added c.put_in.new.child);
      skip = refl;
      width = refl;
      put = kid_added kid c.args.pair.value c.put_in.new.child added;
    }

pub put_in_child-returns-in-There : goal.put_in_child-returns-in-There
put_in_child-returns-in-There g t c =
    let replaces = g.P.Present.REPLACES in
    let kid = kid_of c.requires.level c.requires.fits c.requires.here c.index_mut.ensures.value in
    let there = c.in-There.ensures.put in
    let b = c.args.branch.now in
    record {
      level = kid_there_branch kid replaces c.requires.words c.args.pair.value c.in-There.was c.put_in.new.child there;
      sums = kid_there_sums kid replaces c.requires.words c.args.pair.value c.in-There.was c.put_in.new.child there b.sums c.requires.sums;
      skip = refl;
      width = refl;
      put = kid_there_put kid replaces c.requires.words c.args.pair.value c.in-There.was c.put_in.new.child there;
    }

pub put_in_child-returns-in-Refused-clause-put : goal.put_in_child-returns-in-Refused-clause-put
put_in_child-returns-in-Refused-clause-put g t c =
    let kid = kid_of c.requires.level c.requires.fits c.requires.here c.index_mut.ensures.value in
    let kept = c.in-Refused.ensures.put in
    (kid_has kid ∙ kept.0, kid_same kid c.put_in.new.child kept.1)

pub put_in_kind-put_child-requires-clause-room : goal.put_in_kind-put_child-requires-clause-room
put_in_kind-put_child-requires-clause-room g t c =
    missing_room g.V.Words.WORDS c.args.pair.key c.args.kind.now c.in-Branch.branch c.deref.result.now c.deref_mut-in-Missing.result.now c.in-Missing.byte c.in-Missing.place c.in-Missing.rest
    c.in-Branch.is c.requires.level c.deref.ensures c.in-Missing.ensures c.requires.room c.deref_mut-in-Missing.ensures.value

pub put_in_kind-replaced-requires-clause-past : goal.put_in_kind-replaced-requires-clause-past
put_in_kind-replaced-requires-clause-past g t c =
    past_apart g.V.Words.WORDS c.args.pair.key c.in-Branch.branch.value (subst (IsLevel g.V.Words.WORDS) c.in-Branch.is c.requires.level).0
    c.step.result (subst (λ b. IsStep (256 ^ b.width) (number_of b.skip * 256) b.bytes c.args.pair.key c.step.result) c.deref.ensures c.step.ensures) c.in-Below.is

pub put_in_kind-returns-in-Child-clause-child : goal.put_in_kind-returns-in-Child-clause-child
put_in_kind-returns-in-Child-clause-child g t c =
    still_child g.V.Words.WORDS c.args.width c.args.kind.now c.in-Branch.branch c.deref_mut.result.now c.put_in_child.new.branch c.in-Branch.is c.requires.child c.deref_mut.ensures.value
    c.put_in_child.ensures.skip c.put_in_child.ensures.width c.put_in_child.ensures.level

pub put_in_kind-returns-in-Ok-clause-child : goal.put_in_kind-returns-in-Ok-clause-child
put_in_kind-returns-in-Ok-clause-child g t c =
    still_child g.V.Words.WORDS c.args.width c.args.kind.now c.in-Branch.branch c.deref_mut-in-Missing.result.now c.put_child.new.branch c.in-Branch.is c.requires.child
    c.deref_mut-in-Missing.ensures.value
    c.put_child.ensures.skip c.put_child.ensures.width c.put_child.ensures.level

pub put_in_kind-returns-in-Ok-clause-put : goal.put_in_kind-returns-in-Ok-clause-put
put_in_kind-returns-in-Ok-clause-put g t c =
    let words = g.V.Words.WORDS in
    let branch = c.in-Branch.branch.value in
    let level = (subst (IsLevel words) c.in-Branch.is c.requires.level).0 in
    let step = subst (λ b. IsStep (256 ^ b.width) (number_of b.skip * 256) b.bytes c.args.pair.key (Missing c.in-Missing.byte c.in-Missing.place c.in-Missing.rest))
    c.deref.ensures c.in-Missing.ensures in
    let absent = missing_absent words c.args.pair.key branch level c.in-Missing.byte c.in-Missing.place c.in-Missing.rest step in
    let n = c.put_child.new.branch in
    let here = subst (λ b. IsInserted {E = AllocError} ((number_of b.skip * 256 + c.in-Missing.byte) * 256 ^ b.width + c.in-Missing.rest) c.args.pair.value
    (tree_below b) (tree_below n) (Ok c.in-Ok.field-0)) c.deref_mut-in-Missing.ensures.value c.in-Ok.ensures.inserted in
    let whole = subst (λ k. IsInserted {E = AllocError} k c.args.pair.value (tree_below branch) (tree_below n) (Ok c.in-Ok.field-0)) (sym step.0.key_is) here in
    subst (λ k. IsAdded c.args.pair.key c.args.pair.value (tree_of words k) (tree_below n)) (sym c.in-Branch.is)
    (added_absent AllocError c.args.pair.key c.args.pair.value (tree_below branch) (tree_below n) c.in-Ok.field-0 absent whole)

pub put_in_kind-returns-in-Ok-replaced-clause-put : goal.put_in_kind-returns-in-Ok-replaced-clause-put
put_in_kind-returns-in-Ok-replaced-clause-put g t c =
    let words = g.V.Words.WORDS in
    let branch = c.in-Branch.branch.value in
    let level = (subst (IsLevel words) c.in-Branch.is c.requires.level).0 in
    let past = past_apart words c.args.pair.key branch level c.step.result (subst (λ b. IsStep (256 ^ b.width) (number_of b.skip * 256) b.bytes c.args.pair.key c.step.result)
    c.deref.ensures c.step.ensures) c.in-Below.is in
    subst (λ k. IsAdded c.args.pair.key c.args.pair.value (tree_of words k) (tree_of words c.replaced.new.kind)) (sym c.in-Branch.is)
    (added_absent AllocError c.args.pair.key c.args.pair.value (tree_below branch) (tree_of words c.replaced.new.kind) c.in-Ok-replaced.field-0
    (apart_absent words c.args.pair.key branch level past) c.in-Ok-replaced.ensures.inserted)
