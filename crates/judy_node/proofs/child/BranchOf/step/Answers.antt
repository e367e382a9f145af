use Rattle.std.proofs.Common.{◌*◌, ◌-◌, ◌/◌, ◌^◌, ap, ◌∙◌, sym, arith}
use Rattle.judy_model.specs.WordBytes.{number_of}
use Rattle.judy_model.proofs.lemmas.orders.ByteLemmas.{unit_pos}
use Rattle.judy_node.proofs.StepFacts.{block_fits, below_block, key_read, absent_place, present_place}
use Rattle.judy_node.proofs.child.BranchOf.step.Goals as goal

pub overflow_mul-front : goal.overflow_mul-front
overflow_mul-front g c =
    let branch = c.args.self.now in
    let within = c.requires.parts.within in
    let some = c.requires.parts.some_width in
    let fits = block_fits branch.skip c.requires.parts.skipped_bytes (omega arith) in
    let same = c.number-front.ensures in
    omega arith

pub returns-then-block-front : goal.returns-then-block-front
returns-then-block-front g c =
    let branch = c.args.self.now in
    let block = c.without_tail-block.ensures ∙ ap (λ w. c.args.key / 256 ^ w) c.from-width.ensures in
    let front = c.number-front.ensures in
    let below = c.if-block-front.true in
    below_block c.args.key (256 ^ branch.width) (number_of branch.skip * 256) (unit_pos branch.width) (omega arith)

pub returns-in-Some : goal.returns-in-Some
returns-in-Some g c =
    let branch = c.args.self.now in (
      key_read branch.width (number_of branch.skip) c.args.key c.without_tail-block.result c.number-front.ensures c.from-width.ensures c.without_tail-block.ensures c.tail-rest.ensures
          (omega (arith, c.if-block-front.false)) (omega (arith, c.if-block-front-gt255.false)),
      present_place g.V.Words.WORDS branch.width branch.bytes branch.children.items (c.without_tail-block.result - c.number-front.result * 256) c.in-Some.place c.requires.parts.children
          (sym c.place.ensures ∙ c.in-Some.is),
    )

pub returns-in-None : goal.returns-in-None
returns-in-None g c =
    let branch = c.args.self.now in (
      key_read branch.width (number_of branch.skip) c.args.key c.without_tail-block.result c.number-front.ensures c.from-width.ensures c.without_tail-block.ensures c.tail-rest.ensures
          (omega (arith, c.if-block-front.false)) (omega (arith, c.if-block-front-gt255.false)),
      absent_place branch.bytes (c.without_tail-block.result - c.number-front.result * 256) (sym c.place.ensures ∙ c.in-None.is),
      c.rank.ensures,
    )
