use Rattle.std.proofs.Common.{sym, ap, ◌∙◌}
use Rattle.judy_command.specs.Replies.{checked}
use Rattle.judy_command.proofs.NamedArrays.{Follows-dropped, Follows-not_dropped}
use Rattle.judy_command.proofs.arrays.drop_array.Goals as goal

pub returns-in_default : goal.returns-in_default
returns-in_default c =
    Follows-not_dropped c.args.shelf.now c.args.name.now c.in_ok-name.name (sym c.name_at.ensures ∙ ap checked c.in_ok-name.was) c.remove.new.self
    (sym c.remove.ensures.value ∙ c.in_default.is) c.remove.ensures.rest

pub returns : goal.returns
returns c =
    rw c.len.ensures.count
    (Follows-dropped c.args.shelf.now c.args.name.now c.in_ok-name.name (sym c.name_at.ensures ∙ ap checked c.in_ok-name.was) c.in-Some.array c.remove.new.self
    (sym c.remove.ensures.value ∙ c.in-Some.is) c.remove.ensures.rest)
