-- `Held::store_first`: the array that is held then has the key alone.
use Rattle.std.proofs.Common.{◌≡◌, sym, ap, ◌∙◌, Option, unwrap_or}
use Rattle.judy_model.specs.Keys.{byte_order}
use Rattle.judy_model.specs.Arrays.{ArrayOf}
use Rattle.judy_sl.specs.Lends.{with_value}
use Rattle.judy_c.specs.NullArrays.{empty_keyed}
use Rattle.judy_c.proofs.StringHandles.{nothing_held, room_in_null}
use Rattle.judy_c.proofs.held.Held.store_first.Goals as goal

pub returns : goal.returns
returns g c =
    let keyed = g.T.KeyedArray in let key = c.args.key.now in let seen = λ (o : Option g.row.T.Denot). keyed.seen (unwrap_or o g.T.HeldArray.without_keys) in let before = seen c.args.self.now.array in
    let null : before ≡ empty_keyed = ap seen c.requires ∙ g.met.T.KeyedArray.emptied in (
      c.in_ok-boxed_one.ensures.made.is_key,
      room_in_null before key null,
      sym (nothing_held before key null),
      ap seen c.fill.ensures ∙ c.in_ok-boxed_one.ensures.made.holds ∙ ap (λ (a : ArrayOf byte_order). with_value a key c.args.value) (sym null),
    )
