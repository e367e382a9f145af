use Rattle.std.proofs.Common.{sym, ap, subst, ◌∙◌, arith}
use Rattle.judy_sums.specs.Listed.{less_at}
use Rattle.judy_sl.specs.Arenas.{world_of}
use Rattle.judy_sl.specs.Listed.{IsListed}
use Rattle.judy_sl.proofs.lemmas.counts.KeysTold.{level_counted}
use Rattle.judy_sl.proofs.lemmas.counts.ListSteps.{was_lowered, less_listed}
use Rattle.judy_sl.proofs.arena.Arena.list_less.Goals as goal

pub lower-requires : goal.lower-requires
lower-requires c = record { some = λ list number at held. (c.requires.off.list list at).firsts.some c.first_piece.result number held }

pub returns-else-keys_told-le-FEW-clause-here : goal.returns-else-keys_told-le-FEW-clause-here
returns-else-keys_told-le-FEW-clause-here c list some =
    let was = was_lowered _ c.first_piece.result list (sym c.lower.ensures.lowered ∙ some) in
    let told = level_counted c.args.self.now c.requires.counted c.args.at (c.requires.off.there was.0 was.1) in
    subst (IsListed (world_of c.args.self.now) c.args.at) (sym (was.2 ∙ ap (less_at was.0) c.first_piece.ensures))
    (less_listed c.args.self.now c.args.at c.args.rest.now was.0 (c.requires.off.list was.0 was.1) (omega (arith, told, c.keys_told.ensures, c.if-keys_told-le-FEW.false)))
