use Rattle.std.proofs.Common.{◌+◌, ◌^◌, sym, ◌∙◌, arith}
use Rattle.judy_leaf.specs.Packing.{keys_in}
use Rattle.judy_leaf.proofs.KeysIn.{length-keys, there_in}
use Rattle.judy_leaf.proofs.Nearest.{up_to-rank, up_to-member, held_at, absent_at}
use Rattle.judy_leaf.proofs.AbsentRuns.{first_absent, none_above, longer_up}
use Rattle.judy_leaf.proofs.gaps.absent_from_in.Goals as goal

pub overflow_add-absent : goal.overflow_add-absent
overflow_add-absent g c = let inv = c.loop-at.invariant in let apart = c.if-absent-top.false in omega arith

pub returns-then-key_of-absent : goal.returns-then-key_of-absent
returns-then-key_of-absent g c =
    let keys = keys_in g.row.W c.args.count c.args.words.now in
    let inv = c.loop-at.invariant in
    let top = c.top-top.ensures in
    let at = c.loop-at.at in
    let there = there_in g.row.W c.args.count c.args.words.now c.requires.packed at c.key_of.result c.loop-at-test.true c.key_of.ensures in
    first_absent (256 ^ g.row.W) keys c.args.number c.loop-at.absent inv.0 (omega arith) (absent_at keys c.requires.ascending c.loop-at.absent at inv.2
    (λ _ same. c.if-key_of-absent.true (there.there ∙ same))) inv.3

pub returns-then-absent-top : goal.returns-then-absent-top
returns-then-absent-top g c =
    let keys = keys_in g.row.W c.args.count c.args.words.now in
    let inv = c.loop-at.invariant in
    let top = c.top-top.ensures in
    let last = c.if-absent-top.true in
    let at = c.loop-at.at in
    let there = there_in g.row.W c.args.count c.args.words.now c.requires.packed at c.key_of.result c.loop-at-test.true c.key_of.ensures in
    let held = held_at keys c.requires.ascending c.loop-at.absent at inv.2 there.inside (sym there.there ∙ c.if-key_of-absent.false) in
    none_above (256 ^ g.row.W) keys c.args.number (c.loop-at.absent + 1) (omega arith) (longer_up (256 ^ g.row.W) keys c.args.number c.loop-at.absent inv.3 held)

pub loop-at-preserved : goal.loop-at-preserved
loop-at-preserved g c =
    let keys = keys_in g.row.W c.args.count c.args.words.now in
    let inv = c.loop-at.invariant in
    let apart = c.if-absent-top.false in
    let at = c.loop-at.at in
    let there = there_in g.row.W c.args.count c.args.words.now c.requires.packed at c.key_of.result c.loop-at-test.true c.key_of.ensures in
    let held = held_at keys c.requires.ascending c.loop-at.absent at inv.2 there.inside (sym there.there ∙ c.if-key_of-absent.false) in
    let rank = sym (up_to-rank keys c.loop-at.absent) ∙ up_to-member keys c.requires.ascending c.loop-at.absent held in
    (omega arith, omega arith, omega arith, longer_up (256 ^ g.row.W) keys c.args.number c.loop-at.absent inv.3 held)

pub returns : goal.returns
returns g c =
    let keys = keys_in g.row.W c.args.count c.args.words.now in
    let inv = c.loop-at.invariant in
    let top = c.top-top.ensures in
    let past = c.loop-at-test.false in
    let long = length-keys g.row.W c.args.count c.args.words.now c.requires.packed in
    first_absent (256 ^ g.row.W) keys c.args.number c.loop-at.absent inv.0 (omega arith) (absent_at keys c.requires.ascending c.loop-at.absent c.loop-at.at inv.2
    (λ inside _. let never : ⊥ = omega arith in absurd never)) inv.3
