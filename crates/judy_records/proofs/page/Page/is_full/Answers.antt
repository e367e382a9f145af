use Rattle.std.proofs.Common.{◌≡◌, sym, subst, ◌∙◌}
use Rattle.std.proofs.lemmas.Bool.{eqb-true, eq-eqb}
use Rattle.judy_records.specs.PageSpots.{PageList, IsFull}
use Rattle.judy_records.proofs.PageStands.{spots-long, end-next, none-spare}
use Rattle.judy_records.proofs.page.Page.is_full.Goals as goal

pub returns-then-self-places : goal.returns-then-self-places
returns-then-self-places c =
    let long = spots-long c.self.inside c.self.invariant ∙ c.if-self-places.true in (
      λ is.
          let next = end-next c.self.inside c.self.invariant (eqb-true c.self.inside.spare 0 is) in
          subst (λ (page : PageList). IsFull c.args.places page) c.self.view_is (long, next ∙ long),
      λ full.
          let seen = subst (λ (page : PageList). IsFull c.args.places page) (sym c.self.view_is) full in
          eq-eqb c.self.inside.spare 0 (none-spare c.self.inside c.self.invariant (seen.1 ∙ sym long)),
    )
