use Rattle.std.proofs.Common.{◌≡◌, ◌≤◌, ◌-◌, ◌+◌, length, drop, ap, ◌∙◌, refl, arith}
use borrow.Rule.Slice.PartMut.{mid_len}
use Rattle.std.proofs.lemmas.Bool.{lt-leb}
use Rattle.std.proofs.lemmas.Option.{none-some, same_Some}
use Rattle.std.specs.FinMap.{entries}
use Rattle.judy_model.specs.Counts.{by_count}
use Rattle.judy_sl.specs.Scans.{value_found}
use Rattle.judy_c.specs.KeyWalks.{fitting}
use Rattle.judy_c.proofs.PageLemmas.{fitting_long}
use Rattle.judy_c.proofs.PlacePairs.{some_left, put_at, key_alone, of_found}
use Rattle.judy_c.proofs.key_walks.fill.put_measured.Goals as goal

pub returns-then-bytes-used : goal.returns-then-bytes-used
returns-then-bytes-used c =
    let room = length c.args.bytes.now - c.args.used in
    let one = some_left c.args.array.now.map c.args.place c.args.key_length c.requires.measured in
    let less = c.if-bytes-used.true in
    let same = one.measured in
    (ap (fitting room 1) one.first ∙ fitting_long room 1 one.pair (drop 1 (drop c.args.place (entries c.args.array.now.map))) (lt-leb (length one.pair.0) room (omega (arith, less, same))), refl)

pub returns-in_err-value : goal.returns-in_err-value
returns-in_err-value c =
    let m = c.args.array.now.map in
    let one = some_left m c.args.place c.args.key_length c.requires.measured in
    absurd (none-some one.pair.1 (c.in_err-value.ensures.value ∙ ap (value_found m) one.key ∙ one.value))

pub returns : goal.returns
returns c =
    let m = c.args.array.now.map in
    let one = some_left m c.args.place c.args.key_length c.requires.measured in
    let value = same_Some c.in_ok-value.value one.pair.1 (c.in_ok-value.ensures.value ∙ ap (value_found m) one.key ∙ one.value) in
    let front = of_found _ _ (by_count m (c.args.place + 1)) one.pair.0 one.key c.in_ok-value.ensures.key in
    let long = c.args.key_length in
    let room = c.if-bytes-used.false in
    let inside = c.requires.inside in
    let within : c.args.used + long ≤ length c.args.bytes.now = omega (arith, room, inside) in
    let part : c.args.used + long - c.args.used ≡ length one.pair.0 = let same = one.measured in omega (arith, same) in (
      one.pair,
      one.first,
      put_at one.pair c.args.used (c.args.used + long - c.args.used) c.args.bytes.now c.by_count_in.new.buffer (omega (arith, within)) part
          (front.1 ∙ key_alone one.pair.0 _ (mid_len c.args.used (c.args.used + long) c.args.bytes.now within ∙ part)) c.by_count_in.new.len c.in_ok-value.value front.0 value,
    )
