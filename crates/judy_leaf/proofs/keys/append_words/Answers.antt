use Rattle.std.proofs.Common.{◌+◌, ◌^◌, length, take, refl, ap, sym, ◌∙◌, arith}
use Rattle.std.proofs.lemmas.List.{length-set}
use Rattle.judy_leaf.specs.KeyLists.{keys_of, low_pairs}
use Rattle.judy_leaf.proofs.WordSteps.{base_pos}
use Rattle.judy_leaf.proofs.WholeWords.{words_are}
use Rattle.judy_leaf.proofs.Appended.{gap_behind, gap_length, none_written, length-keys_low, key_low, keys_below, key_written, keys_written}
use Rattle.judy_leaf.proofs.keys.append_words.Goals as goal

pub open_gap-requires-clause-room : goal.open_gap-requires-clause-room
open_gap-requires-clause-room g c =
    let as_many = words_are g.row.W c.requires.width c.requires.one (length c.args.pairs.now) in
    let behind = c.requires.behind in
    let room = c.requires.room in
    omega arith

pub loop-at-init : goal.loop-at-init
loop-at-init g c = (refl, refl, refl, none_written c.open_gap.new.self.words c.args.start)

pub put-requires : goal.put-requires
put-requires g c =
    let n = length c.args.pairs.now in
    let inside = c.loop-at-test.true in
    let start = c.requires.behind in
    let all = ap (λ b. length b.words) c.open_gap.ensures ∙ ap length (gap_behind c.args.block.now.words c.args.start n (sym start)) ∙ gap_length c.args.block.now.words n in
    let long = c.loop-at.invariant.2 in
    omega arith

pub loop-at-preserved : goal.loop-at-preserved
loop-at-preserved g c =
    let unit = 256 ^ g.row.W in
    let so_far = c.loop-at.invariant in
    let at = c.loop-at.at in
    let n = length c.args.pairs.now in
    let start = c.requires.behind in
    let inside = c.loop-at-test.true in
    let all = ap (λ b. length b.words) c.open_gap.ensures ∙ ap length (gap_behind c.args.block.now.words c.args.start n (sym start)) ∙ gap_length c.args.block.now.words n in
    let long = so_far.2 in
    let as_many = length-keys_low unit c.args.pairs.now in
    let place = c.args.start + at in (
      ap (λ b. b.capacity) c.put.ensures ∙ so_far.0,
      ap (λ b. b.tag) c.put.ensures ∙ so_far.1,
      ap (λ b. length b.words) c.put.ensures ∙ length-set c.loop-at.block.words place c.low_part.result ∙ so_far.2,
      ap (λ b. take (c.args.start + (at + 1)) b.words) c.put.ensures
          ∙ key_written c.loop-at.block.words (take c.args.start c.open_gap.new.self.words) (keys_of (low_pairs unit c.args.pairs.now)) c.args.start place at c.low_part.result refl
          (omega arith) (omega arith)
          (c.low_part.ensures ∙ key_low unit c.args.pairs.now at inside) so_far.3,
    )

pub returns : goal.returns
returns g c =
    let unit = 256 ^ g.row.W in
    let so_far = c.loop-at.invariant in
    let past = c.loop-at-test.false in
    let end = c.loop-at.auto.at-end in
    keys_written g.row.W c.requires.width c.requires.one c.args.start (length c.args.pairs.now) c.loop-at.at
    (keys_of (low_pairs unit c.args.pairs.now)) c.args.block.now c.open_gap.new.self c.loop-at.block c.open_gap.ensures
    (sym c.requires.behind) so_far.0 so_far.1 so_far.2 (omega arith) (length-keys_low unit c.args.pairs.now) c.requires.few so_far.3
    (keys_below unit (base_pos g.row.W c.requires.width) c.args.pairs.now)
