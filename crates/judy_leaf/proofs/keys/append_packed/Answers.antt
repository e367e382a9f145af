use Rattle.std.proofs.Common.{◌+◌, ◌≡◌, ◌<◌, ◌^◌, length, get_or, sym, subst, ◌∙◌, arith}
use Rattle.std.proofs.lemmas.Nat.{mod_below}
use Rattle.judy_leaf.specs.KeyLists.{keys_of, low_pairs}
use Rattle.judy_leaf.proofs.WordsFor.{words_up}
use Rattle.judy_leaf.proofs.WordSteps.{base_pos}
use Rattle.judy_leaf.proofs.Appended.{length-keys_low, key_low, none_behind, key_behind, keys_done}
use Rattle.judy_leaf.proofs.keys.append_packed.Goals as goal

pub loop-at-init : goal.loop-at-init
loop-at-init g c = none_behind g.row.W c.args.start c.args.block.now (keys_of (low_pairs (256 ^ g.row.W) c.args.pairs.now)) c.requires.width c.requires.behind

pub loop-at-preserved : goal.loop-at-preserved
loop-at-preserved g c =
    let unit = 256 ^ g.row.W in
    let inside = c.loop-at-test.true in
    let long = length-keys_low unit c.args.pairs.now in
    key_behind g.row.W c.args.start c.loop-at.at c.low_part.result (keys_of (low_pairs unit c.args.pairs.now)) c.args.block.now c.loop-at.block c.insert_in.new.block (omega arith)
    (c.low_part.ensures ∙ key_low unit c.args.pairs.now c.loop-at.at inside) c.loop-at.invariant c.insert_in.ensures

pub insert_in-requires-clause-room : goal.insert_in-requires-clause-room
insert_in-requires-clause-room g c =
    let inside = c.loop-at-test.true in
    let up = words_up g.row.W c.requires.width (c.loop-at.at + 1) (length c.args.pairs.now) (omega arith) in
    let room = c.requires.room in
    let same = c.loop-at.invariant.capacity in
    omega arith

pub insert_in-requires-clause-below : goal.insert_in-requires-clause-below
insert_in-requires-clause-below g c =
    subst (λ n. n < 256 ^ g.row.W) (sym c.low_part.ensures) (mod_below (get_or c.args.pairs.now c.loop-at.at (0, 0)).0 (256 ^ g.row.W) (base_pos g.row.W c.requires.width))

pub returns : goal.returns
returns g c =
    let past = c.loop-at-test.false in
    let end = c.loop-at.auto.at-end in
    let n = length c.args.pairs.now in
    let long = length-keys_low (256 ^ g.row.W) c.args.pairs.now in
    let e : c.loop-at.at ≡ n = omega arith in
    keys_done g.row.W c.args.start c.loop-at.at n (keys_of (low_pairs (256 ^ g.row.W) c.args.pairs.now)) c.args.block.now c.loop-at.block e long c.loop-at.invariant
