-- `Handle::array`: what is lent by what the handle holds is lent by the handle.
use Rattle.std.proofs.Common.{◌≡◌, ap, subst, ◌∙◌, Option, IfSome, unwrap_or}
use Rattle.std.specs.Option.{option_copied_mut, ghost_name_of}
use borrow.Follows.Closed.{read_of}
use Rattle.judy_c.specs.HeldLends.{with_array}
use Rattle.judy_c.specs.declared.held.Held.{Held}
use Rattle.judy_c.proofs.HeldFacts.{held_again, none_held}
use Rattle.judy_c.proofs.handles.Handle.array.Goals as goal

pub returns : goal.returns
returns g c =
    let h = g.Self.Handle in let handle = c.args.self.now in let lent = c.array.result in let again = g.met.Self.Handle.again handle in
    let held : option_copied_mut lent ≡ (h.held_by handle).array = c.array.ensures.value ∙ ap (λ (x : Held g.row.Self-Array.Denot). x.array) c.held.ensures.value in (
      ap (λ (x : Held g.row.Self-Array.Denot). read_of (ghost_name_of lent) (λ a. h.holding (with_array x a)) (h.holding x)) c.held.ensures.value
          ∙ ap (λ (x : g.row.Self.Denot). read_of (ghost_name_of lent) (λ a. h.holding (with_array (h.held_by handle) a)) x) again,
      record {
        writes_back = tt;
        value = held;
        again = subst (λ (x : g.row.Self.Denot). IfSome lent (λ array. h.holding (with_array (h.held_by handle) array.now) ≡ x)) again
            (held_again (λ (o : Option g.row.Self-Array.Denot). h.holding (record (h.held_by handle) { array = o })) (h.held_by handle).array lent held);
        null = none_held (λ (o : Option g.row.Self-Array.Denot). unwrap_or o g.Self.Array.HeldArray.without_keys) (h.held_by handle).array lent held;
      },
    )
