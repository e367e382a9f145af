use Rattle.std.proofs.Common.{◌^◌, arith}
use Rattle.judy_node.proofs.Groups.{sharing-within}
use Rattle.judy_node.proofs.build.group_end.Goals as goal

pub overflow_add-result : goal.overflow_add-result
overflow_add-result g c =
    let all = sharing-within (256 ^ c.args.below) 256 c.args.byte c.split_at.result.1.now in
    let left = c.split_at.ensures.back_len in
    omega arith
