use Rattle.std.proofs.Common.{rules, ap, sym, arith, ◌≡◌, ◌+◌, ◌-◌, ◌^◌, ◌∙◌}
use Rattle.judy_bits.specs.ByteSets as set
use Rattle.judy_leaf.specs.Packing.{keys_in}
use Rattle.judy_leaf.proofs.KeysIn.{length-keys, there_in}
use Rattle.judy_leaf.proofs.LeafLists.{count_within}
use Rattle.judy_leaf.proofs.Nearest.{up_to-rank, up_to-member}
use Rattle.judy_leaf.proofs.AbsentRuns.{last_absent, none_below, longer_down, none_up_to, held_below, absent_below}
use Rattle.judy_leaf.proofs.gaps.absent_up_to_in.Goals as goal

pub key_of-requires-clause-inside : goal.key_of-requires-clause-inside
key_of-requires-clause-inside g c =
    let inv = c.loop-at.invariant in
    let some = c.loop-at-test.true in
    let long = length-keys g.row.W c.args.count c.args.words.now c.requires.packed in
    let most = count_within (keys_in g.row.W c.args.count c.args.words.now) c.loop-at.absent in
    let enough = c.requires.packed.enough in
    omega arith

pub returns-then-key_of-absent : goal.returns-then-key_of-absent
returns-then-key_of-absent g c =
    let keys = keys_in g.row.W c.args.count c.args.words.now in
    let inv = c.loop-at.invariant in
    let some = c.loop-at-test.true in
    let back : c.loop-at.at - 1 + 1 ≡ c.loop-at.at = omega arith in
    let long = length-keys g.row.W c.args.count c.args.words.now c.requires.packed in
    let most = count_within keys c.loop-at.absent in
    let there = there_in g.row.W c.args.count c.args.words.now c.requires.packed (c.loop-at.at - 1) c.key_of.result (omega arith) c.key_of.ensures in
    last_absent (256 ^ g.row.W) keys c.args.number c.loop-at.absent inv.0 inv.1 (absent_below keys c.requires.ascending c.loop-at.absent (c.loop-at.at - 1)
    (back ∙ inv.2) (λ same. c.if-key_of-absent.true (there.there ∙ same))) inv.3

pub returns-then-absent-eq0 : goal.returns-then-absent-eq0
returns-then-absent-eq0 g c =
    let keys = keys_in g.row.W c.args.count c.args.words.now in
    let inv = c.loop-at.invariant in
    let some = c.loop-at-test.true in
    let long = length-keys g.row.W c.args.count c.args.words.now c.requires.packed in
    let most = count_within keys c.loop-at.absent in
    let there = there_in g.row.W c.args.count c.args.words.now c.requires.packed (c.loop-at.at - 1) c.key_of.result (omega arith) c.key_of.ensures in
    let held = held_below keys c.requires.ascending c.loop-at.absent (c.loop-at.at - 1) there.inside (sym there.there ∙ c.if-key_of-absent.false) in
    none_below (256 ^ g.row.W) keys c.args.number c.loop-at.absent c.if-absent-eq0.true inv.3 held

pub loop-at-preserved : goal.loop-at-preserved
loop-at-preserved g c =
    let keys = keys_in g.row.W c.args.count c.args.words.now in
    let inv = c.loop-at.invariant in
    let some = c.loop-at-test.true in
    let apart = c.if-absent-eq0.false in
    let long = length-keys g.row.W c.args.count c.args.words.now c.requires.packed in
    let most = count_within keys c.loop-at.absent in
    let there = there_in g.row.W c.args.count c.args.words.now c.requires.packed (c.loop-at.at - 1) c.key_of.result (omega arith) c.key_of.ensures in
    let held = held_below keys c.requires.ascending c.loop-at.absent (c.loop-at.at - 1) there.inside (sym there.there ∙ c.if-key_of-absent.false) in
    let down : c.loop-at.absent - 1 + 1 ≡ c.loop-at.absent = omega arith in
    let fewer = up_to-rank keys (c.loop-at.absent - 1) ∙ ap (set.rank keys) down in
    let one = up_to-member keys c.requires.ascending c.loop-at.absent held in
    (omega arith, omega arith, omega arith, longer_down (256 ^ g.row.W) keys c.args.number c.loop-at.absent inv.3 (omega arith) held)

pub returns : goal.returns
returns g c =
    let keys = keys_in g.row.W c.args.count c.args.words.now in
    let inv = c.loop-at.invariant in
    let past = c.loop-at-test.false in
    last_absent (256 ^ g.row.W) keys c.args.number c.loop-at.absent inv.0 inv.1 (none_up_to keys c.requires.ascending c.loop-at.absent (sym inv.2 ∙ omega arith)) inv.3

pub loop-at-init : goal.loop-at-init
loop-at-init g c = search rules
