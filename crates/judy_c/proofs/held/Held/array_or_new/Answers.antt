-- `Held::array_or_new`: an array that was there and is left as it was leaves all as it was.
use Rattle.std.proofs.Common.{◌≡◌, refl, sym, ap, ◌∙◌, rules, Option, Some, true≢false}
use Rattle.std.specs.Prelude.{is_none}
use Rattle.judy_c.specs.HeldLends.{with_array}
use Rattle.judy_c.specs.declared.held.Held.{Held}
use Rattle.judy_c.proofs.held.Held.array_or_new.Goals as goal
use Rattle.judy_c.proofs.held.Held.array_or_new.Goals.{then-is_null+in_ok-make, else-is_null}

pub returns : goal.returns
returns g c =
    let now = c.args.self.now in
    let stays : (w : g.row.T.Denot) → now.array ≡ Some w → with_array c.if-is_null.self w ≡ now = λ w is.
    elim c.if-is_null.branch [
      | then-is_null+in_ok-make b ↦ absurd (true≢false (sym b.if-is_null.true ∙ c.is_null.ensures.0 ∙ ap is_none is))
      | else-is_null b ↦ ap (λ (h : Held g.row.T.Denot). with_array h w) (b.self-is ∙ c.is_null.ensures.1) ∙ ap (λ (o : Option g.row.T.Denot). record now { array = o }) (sym is)
    ] in
    ((refl, (λ w is. (refl, stays w)), tt), record { writes_back = tt; value = search rules; null = tt })
