use Rattle.std.proofs.Common.{◌+◌, length, take, get_or, refl, ap, ◌∙◌, arith}
use Rattle.std.proofs.lemmas.List.{length-set}
use Rattle.judy_leaf.proofs.Appended.{gap_behind, gap_length, none_written, value_written, appended}
use Rattle.judy_leaf.proofs.values.append.Goals as goal

pub loop-at-init : goal.loop-at-init
loop-at-init c = (refl, refl, refl, none_written c.open_gap.new.self.words c.len-start.result)

pub overflow_add-start : goal.overflow_add-start
overflow_add-start c =
    let inside = c.loop-at-test.true in
    let start = c.len-start.ensures.count in
    let front = c.requires.front in
    let few = c.requires.few in
    omega arith

pub put-requires : goal.put-requires
put-requires c =
    let n = length c.args.pairs.now in
    let inside = c.loop-at-test.true in
    let start = c.len-start.ensures.count in
    let all = ap (λ b. length b.words) c.open_gap.ensures ∙ ap length (gap_behind c.args.block.now.words c.len-start.result n start) ∙ gap_length c.args.block.now.words n in
    let long = c.loop-at.invariant.2 in
    omega arith

pub loop-at-preserved : goal.loop-at-preserved
loop-at-preserved c =
    let so_far = c.loop-at.invariant in
    let at = c.loop-at.at in
    let n = length c.args.pairs.now in
    let start = c.len-start.ensures.count in
    let inside = c.loop-at-test.true in
    let all = ap (λ b. length b.words) c.open_gap.ensures ∙ ap length (gap_behind c.args.block.now.words c.len-start.result n start) ∙ gap_length c.args.block.now.words n in
    let long = so_far.2 in
    let place = c.len-start.result + at in (
      ap (λ b. b.capacity) c.put.ensures ∙ so_far.0,
      ap (λ b. b.tag) c.put.ensures ∙ so_far.1,
      ap (λ b. length b.words) c.put.ensures ∙ length-set c.loop-at.block.words place (get_or c.args.pairs.now at (0, 0)).1 ∙ so_far.2,
      ap (λ b. take (c.len-start.result + (at + 1)) b.words) c.put.ensures
          ∙ value_written c.loop-at.block.words (take c.len-start.result c.open_gap.new.self.words) c.args.pairs.now c.len-start.result place at refl (omega arith) inside so_far.3,
    )

pub returns : goal.returns
returns c =
    let so_far = c.loop-at.invariant in
    let past = c.loop-at-test.false in
    let end = c.loop-at.auto.at-end in
    appended c.args.block.now c.open_gap.new.self c.loop-at.block c.args.pairs.now c.len-start.result c.loop-at.at c.open_gap.ensures c.len-start.ensures.count so_far.0 so_far.1 so_far.2
    (omega arith) so_far.3
