-- `Held::put_in`: what is said of the array that is held is said of what holds it.
use Rattle.std.proofs.Common.{refl, ap, subst, ◌∙◌, Option, unwrap_or}
use Rattle.judy_model.specs.Keys.{byte_order}
use Rattle.judy_model.specs.Arrays.{ArrayOf}
use Rattle.judy_sl.specs.Lends.{with_value}
use Rattle.judy_c.specs.HeldLends.{with_array}
use Rattle.judy_c.specs.KeyInserts.{IsMade}
use Rattle.judy_c.specs.declared.held.Held.{Held}
use Rattle.judy_c.proofs.HeldFacts.{on_err}
use Rattle.judy_c.proofs.held.Held.put_in.Goals as goal

pub returns-else-is_null : goal.returns-else-is_null
returns-else-is_null g c =
    let keyed = g.T.KeyedArray in let key = c.args.key.now in
    let held = c.lend.ensures.value ∙ ap (λ (h : Held g.row.T.Denot). h.array) c.is_null.ensures.1 in
    let seen = ap (λ (o : Option g.row.T.Denot). keyed.seen (unwrap_or o g.T.HeldArray.without_keys)) held in (
      (
        refl,
        (λ w is. c.put_in.follows.holds w is ∙ ap (λ (a : ArrayOf byte_order). with_value a key w) seen),
        on_err c.put_in.result (λ same. ap (with_array c.is_null.new.self) same ∙ ap (λ (o : Option g.row.T.Denot). record c.is_null.new.self { array = o }) c.lend.ensures.value ∙
            c.is_null.ensures.1) c.put_in.follows.holds-at-none,
      ),
      record { writes_back = tt; made = subst (λ (a : ArrayOf byte_order). IsMade keyed.IsKey a key c.put_in.result) seen c.put_in.ensures.made },
    )
