use Rattle.std.proofs.Common.{◌+◌, ◌^◌, sym, ap, ◌∙◌, arith}
use Rattle.judy_word.specs.Held.{map_in}
use Rattle.judy_word.proofs.FillingFacts.{front_there, front_absent, front_up}
use Rattle.judy_word.proofs.tree_array.TreeArray.room_beside.Goals as goal

pub pairs-preserved-then-has : goal.pairs-preserved-then-has
pairs-preserved-then-has g c =
    let there = sym c.has.ensures ∙ c.if-has.true in
    ap (λ n. c.pairs.room + n) (front_there g.V.Words.WORDS 0 (256 ^ 8) c.pairs.key-index (map_in c.args.self.now) c.args.pairs.now (0, 0) c.requires c.pairs-test.true there) ∙ c.pairs.invariant

pub pairs-preserved : goal.pairs-preserved
pairs-preserved g c =
    let absent = sym c.has.ensures ∙ c.if-has.false in
    let more = front_absent g.V.Words.WORDS 0 (256 ^ 8) c.pairs.key-index (map_in c.args.self.now) c.args.pairs.now (0, 0) c.requires c.pairs-test.true absent in
    let before = c.pairs.invariant in
    let some = c.if-room-eq0.false in
    omega (arith, more, before, some)

pub returns-then-room-eq0-clause-none : goal.returns-then-room-eq0-clause-none
returns-then-room-eq0-clause-none g c = λ _.
    let absent = sym c.has.ensures ∙ c.if-has.false in
    let more = front_absent g.V.Words.WORDS 0 (256 ^ 8) c.pairs.key-index (map_in c.args.self.now) c.args.pairs.now (0, 0) c.requires c.pairs-test.true absent in
    let up = front_up (c.pairs.key-index + 1) (map_in c.args.self.now) c.args.pairs.now in
    let before = c.pairs.invariant in
    let none = c.if-room-eq0.true in
    omega (arith, more, up, before, none)
