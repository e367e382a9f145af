use Rattle.std.proofs.Common.{sym, ◌∙◌, arith}
use Rattle.std.proofs.lemmas.Option.{none-some}
use Rattle.judy_query.proofs.BranchRooms.{byte_small}
use Rattle.judy_query.proofs.LaterFacts.{next_there, next_byte}
use Rattle.judy_query.proofs.branches.byte_from.Goals as goal

pub overflow_cast-from : goal.overflow_cast-from
overflow_cast-from g c =
    let b = c.args.branch.now in
    let small = byte_small g.V.Words.WORDS b.width b.skip b.bytes b.children.items b.population c.requires.branch c.args.from c.args.place (sym c.requires.from) c.requires.place in
    omega arith

pub unreachable-requires : goal.unreachable-requires
unreachable-requires g c =
    let b = c.args.branch.now in
    none-some _ (sym c.in-None.is ∙ c.next_from.ensures ∙ next_there g.V.Words.WORDS b.width b.skip b.bytes b.children.items b.population c.requires.branch
    c.args.place c.args.from c.requires.place c.requires.from)

pub returns : goal.returns
returns g c =
    let b = c.args.branch.now in
    next_byte g.V.Words.WORDS b.width b.skip b.bytes b.children.items b.population c.requires.branch c.args.place c.args.from c.requires.from ∙ sym c.next_from.ensures ∙ c.in-Some.is
