-- `Held::put_first`: the array that is held then has the key alone.
use Rattle.std.proofs.Common.{◌≡◌, refl, ap, ◌∙◌, ℕ, Option, Some, None, unwrap_or}
use Rattle.std.specs.Prelude.{is_some}
use Rattle.std.proofs.lemmas.Option.{same_Some}
use Rattle.judy_sl.specs.Lends.{with_value}
use Rattle.judy_c.specs.NullArrays.{empty_keyed}
use Rattle.judy_c.proofs.FirstKeys.{one_held, one_inserted, one_written}
use Rattle.judy_c.proofs.StringHandles.{room_in_null}
use Rattle.judy_c.proofs.held.Held.put_first.Goals as goal

pub returns-in-Some : goal.returns-in-Some
returns-in-Some g c =
    let keyed = g.T.KeyedArray in let key = c.args.key.now in let lent = c.lend.result.now in let before = keyed.seen (unwrap_or c.args.self.now.array g.T.HeldArray.without_keys) in
    let null : before ≡ empty_keyed = ap (λ (o : Option g.row.T.Denot). keyed.seen (unwrap_or o g.T.HeldArray.without_keys)) c.requires ∙ g.met.T.KeyedArray.emptied in
    let filled : lent ≡ c.in_ok-boxed_one.field-0.value = same_Some _ _ (c.lend.ensures.value ∙ c.fill.ensures) in
    let one : keyed.seen lent ≡ with_value empty_keyed key 0 = ap keyed.seen filled ∙ c.in_ok-boxed_one.ensures.made.holds in (
      (refl, (λ w is. c.slot_of.follows.holds w (ap is_some c.in-Some.is) ∙ one_written before (keyed.seen lent) key null one w), tt),
      record {
        writes_back = tt;
        made = (c.in_ok-boxed_one.ensures.made.is_key, room_in_null before key null, c.in-Some.ensures.value ∙ one_inserted before (keyed.seen lent) key null one);
      },
    )

pub returns-in-None : goal.returns-in-None
returns-in-None g c =
    let keyed = g.T.KeyedArray in let key = c.args.key.now in let lent = c.lend.result.now in let none : Option ℕ = None in
    let filled : lent ≡ c.in_ok-boxed_one.field-0.value = same_Some _ _ (c.lend.ensures.value ∙ c.fill.ensures) in
    let apart : none ≡ Some 0 = c.in-None.ensures.value ∙ one_held empty_keyed (keyed.seen lent) key refl 0 (ap keyed.seen filled ∙ c.in_ok-boxed_one.ensures.made.holds) in
    absurd cc
