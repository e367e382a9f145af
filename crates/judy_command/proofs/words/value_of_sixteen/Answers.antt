use Rattle.std.proofs.Common.{◌+◌, ◌*◌, ◌∙◌}
use Rattle.judy_command.proofs.DigitLanes.{above_zeros, sixteen}
use Rattle.judy_command.proofs.words.value_of_sixteen.Goals as goal

pub overflow_sub-values : goal.overflow_sub-values
overflow_sub-values c = above_zeros c.args.digits c.requires.sixteen c.requires.digits

pub returns : goal.returns
returns c =
    (λ t. (c.from.ensures t * 10000 + c.from-2.ensures t) * 100000000 + (c.from-3.ensures t * 10000 + c.from-4.ensures t))
    ∙ sixteen c.args.digits c.requires.sixteen c.requires.digits
