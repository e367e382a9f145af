-- `Held::store`: what is said of the array that is held is said of what holds it.
use Rattle.std.proofs.Common.{◌≡◌, ap, subst, ◌∙◌, Option, unwrap_or}
use Rattle.judy_c.specs.HeldLends.{with_array}
use Rattle.judy_c.specs.KeyPuts.{IsStored}
use Rattle.judy_c.proofs.FirstKeys.{stored_so}
use Rattle.judy_c.proofs.held.Held.store.Goals as goal

pub returns-in-Some : goal.returns-in-Some
returns-in-Some g c =
    let keyed = g.T.KeyedArray in let now = c.args.self.now in
    subst (λ (o : Option g.row.T.Denot). IsStored keyed.IsKey (keyed.seen (unwrap_or o g.T.HeldArray.without_keys)) c.args.key.now c.args.value
    (with_array now c.store.new.self ≡ now) c.store.result (keyed.seen c.store.new.self)) c.in-Some.ensures.value
    (stored_so keyed.IsKey _ _ c.args.key.now c.args.value c.store.result (λ same. ap (with_array now) same ∙
    ap (λ (o : Option g.row.T.Denot). record now { array = o }) c.in-Some.ensures.value) c.store.ensures)
