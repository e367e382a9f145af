use Rattle.std.proofs.Common.{◌∙◌, sym, arith}
use Rattle.judy_node.proofs.StepFacts.{children-IsByteSet}
use Rattle.judy_combine.proofs.NextBytes.{next_both, next_left, next_right}
use Rattle.judy_combine.proofs.branches.next_byte.Goals as goal

pub returns-in-Some-Some : goal.returns-in-Some-Some
returns-in-Some-Some g c =
    let words = g.V.Words.WORDS in
    let b = c.args.one.now in
    let o = c.args.other.now in
    next_both b.bytes o.bytes c.args.from (children-IsByteSet words b.width 0 b.bytes b.children.items c.requires.one.parts.children)
    (children-IsByteSet words o.width 0 o.bytes o.children.items c.requires.other.parts.children)
    c.in-Some-Some.ours c.in-Some-Some.theirs c.min.result (sym c.next_from.ensures ∙ c.in-Some-Some.is-0) (sym c.next_from-2.ensures ∙ c.in-Some-Some.is-1)
    (omega (arith, c.min.ensures))

pub returns-in-Some-None : goal.returns-in-Some-None
returns-in-Some-None g c =
    let words = g.V.Words.WORDS in
    let b = c.args.one.now in
    let o = c.args.other.now in
    next_left b.bytes o.bytes c.args.from (children-IsByteSet words b.width 0 b.bytes b.children.items c.requires.one.parts.children)
    (children-IsByteSet words o.width 0 o.bytes o.children.items c.requires.other.parts.children)
    c.in-Some-None.ours (sym c.next_from.ensures ∙ c.in-Some-None.is-0) (sym c.next_from-2.ensures ∙ c.in-Some-None.is-1)

pub returns-in-None-default : goal.returns-in-None-default
returns-in-None-default g c =
    let words = g.V.Words.WORDS in
    let b = c.args.one.now in
    let o = c.args.other.now in
    next_right b.bytes o.bytes c.args.from (children-IsByteSet words b.width 0 b.bytes b.children.items c.requires.one.parts.children)
    (children-IsByteSet words o.width 0 o.bytes o.children.items c.requires.other.parts.children)
    c.next_from-2.result (sym c.next_from.ensures ∙ c.in-None-default.is-0) (sym c.next_from-2.ensures)
