use Rattle.std.proofs.Common.{◌+◌, sym, ◌∙◌, arith}
use Rattle.std.proofs.lemmas.Option.{none-some}
use Rattle.judy_query.proofs.BranchRooms.{byte_some}
use Rattle.judy_query.proofs.LaterFacts.{there_before, byte_before}
use Rattle.judy_query.proofs.branches.byte_below.Goals as goal

pub overflow_sub-last : goal.overflow_sub-last
overflow_sub-last g c = byte_some c.args.branch.now.bytes c.args.below (c.args.place + 1) (sym c.requires.below) (omega arith)

pub unreachable-requires : goal.unreachable-requires
unreachable-requires g c =
    let b = c.args.branch.now in
    let some = byte_some b.bytes c.args.below (c.args.place + 1) (sym c.requires.below) (omega arith) in
    none-some _ (sym c.in-None.is ∙ c.prev_from.ensures ∙ there_before g.V.Words.WORDS b.width b.skip b.bytes b.children.items b.population c.requires.branch
    c.args.place c.args.below c.requires.place c.requires.below (omega arith))

pub returns : goal.returns
returns g c =
    let b = c.args.branch.now in
    let some = byte_some b.bytes c.args.below (c.args.place + 1) (sym c.requires.below) (omega arith) in
    byte_before g.V.Words.WORDS b.width b.skip b.bytes b.children.items b.population c.requires.branch c.args.place c.args.below c.requires.below (omega arith) ∙ sym c.prev_from.ensures ∙ c.in-Some.is
