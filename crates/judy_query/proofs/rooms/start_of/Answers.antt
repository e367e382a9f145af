use Rattle.std.proofs.Common.{◌^◌, ◌+◌, ◌*◌, arith}
use Rattle.judy_model.specs.WordBytes.{number_of}
use Rattle.judy_model.proofs.lemmas.orders.ByteLemmas.{unit_pos}
use Rattle.judy_node.proofs.StepFacts.{block_fits}
use Rattle.judy_query.proofs.Blocks.{block_word}
use Rattle.judy_query.proofs.rooms.start_of.Goals as goal

pub overflow_mul-number : goal.overflow_mul-number
overflow_mul-number g c =
    let within = c.requires.branch.parts.within in
    let some = c.requires.branch.parts.some_width in
    let fits = block_fits c.args.branch.now.skip c.requires.branch.parts.skipped_bytes (omega arith) in
    let same = c.number.ensures in
    omega arith

pub overflow_add-number : goal.overflow_add-number
overflow_add-number g c =
    let same = c.number.ensures in
    let word = block_word (number_of c.args.branch.now.skip * 256 + c.args.byte) (256 ^ c.args.branch.now.width) (unit_pos c.args.branch.now.width) in
    let within = c.requires.within in
    omega arith
