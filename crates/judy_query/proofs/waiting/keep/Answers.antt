use Rattle.std.proofs.Common.{◌<◌, length, Some, sym, ap, ◌∙◌, subst, arith}
use Rattle.judy_query.specs.Walks.{waiting, AreTurns}
use Rattle.judy_query.proofs.WalkFacts.{waiting-push, turns-push, rest_none}
use Rattle.judy_query.proofs.waiting.keep.Goals as goal

pub returns-then-place-len-clause-turns : goal.returns-then-place-len-clause-turns
returns-then-place-len-clause-turns g c =
    let words = g.V.Words.WORDS in
    let b = c.args.branch.now in
    let held = b.children.ok.0 in
    let len = c.len.ensures in
    let below = c.if-place-len.true in
    let inside : c.args.place < length b.children.items = omega arith in
    subst (AreTurns words 0) (sym c.push.ensures.items)
    (turns-push words 0 c.args.turns.now.items (Some (record { branch = c.args.branch; place = c.args.place; base = c.args.base; edge = c.args.from }))
    (length c.args.turns.now.items) (omega arith) c.requires.turns
    (record { branch = c.requires.branch; inside = inside; fits = c.requires.fits }, c.requires.room, c.requires.from))

pub returns-then-place-len-clause-pairs : goal.returns-then-place-len-clause-pairs
returns-then-place-len-clause-pairs g c =
    ap waiting c.push.ensures.items ∙ waiting-push c.args.turns.now.items (Some (record { branch = c.args.branch; place = c.args.place; base = c.args.base; edge = c.args.from }))

pub returns-else-place-len-clause-pairs : goal.returns-else-place-len-clause-pairs
returns-else-place-len-clause-pairs g c =
    let b = c.args.branch.now in
    let held = b.children.ok.0 in
    let len = c.len.ensures in
    let past = c.if-place-len.false in
    rest_none g.V.Words.WORDS b.width b.skip b.bytes b.children.items b.population c.requires.branch c.args.place c.args.base (waiting c.args.turns.now.items) (omega arith)
