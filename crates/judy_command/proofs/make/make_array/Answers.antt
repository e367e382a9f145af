use Rattle.std.proofs.Common.{sym, ap, ◌∙◌}
use Rattle.std.specs.Prelude.{option_copied}
use Rattle.judy_command.specs.Refusals.{refusal_of_make}
use Rattle.judy_command.specs.Replies.{checked}
use Rattle.judy_command.proofs.MakeLemmas.{error_is, Follows-made, Follows-not_made}
use Rattle.judy_command.proofs.make.make_array.Goals as goal

pub returns-in_err-make : goal.returns-in_err-make
returns-in_err-make c =
    rw (error_is c.from_residual-in_err-make.result (refusal_of_make c.in_err-make.field-0.0) c.from_residual-in_err-make.ensures.1)
    (Follows-not_made c.args.shelf.now c.args.name.now c.args.kind.now (option_copied c.args.limit) c.in_ok-name.name c.in-Some.kind c.in_ok-limit.limit
    (sym c.name_at.ensures ∙ ap checked c.in_ok-name.was) (sym c.in-Some.ensures.named) (sym c.limit_of.ensures ∙ ap checked c.in_ok-limit.was)
    c.make.new.self c.in_err-make.field-0.0 c.in_err-make.ensures.refused c.in_err-make.ensures.unchanged)

pub returns : goal.returns
returns c =
    Follows-made c.args.shelf.now c.args.name.now c.args.kind.now (option_copied c.args.limit) c.in_ok-name.name c.in-Some.kind c.in_ok-limit.limit
    (sym c.name_at.ensures ∙ ap checked c.in_ok-name.was) (sym c.in-Some.ensures.named) (sym c.limit_of.ensures ∙ ap checked c.in_ok-limit.was)
    c.make.new.self c.in_ok-make.ensures.accepted c.in_ok-make.ensures.made
