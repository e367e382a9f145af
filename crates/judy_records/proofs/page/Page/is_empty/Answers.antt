use Rattle.std.proofs.Common.{◌≡◌, ◌≢◌, ℕ, inl, inr, true, false, MatchBool, eqb, sym, ap, subst, ◌∙◌}
use Rattle.std.proofs.lemmas.Bool.Decides.{eqb_tells}
use Rattle.judy_records.specs.Spots.{free, IsHeld}
use Rattle.judy_records.specs.PageSpots.{PageList, spot_in}
use Rattle.judy_records.proofs.PageStands.{spare-all, spare-less}
use Rattle.judy_records.proofs.page.Page.is_empty.Goals as goal

pub returns : goal.returns
returns c =
    elim (eqb_tells c.self.inside.spare c.self.inside.count) [
      | inl same ↦
          subst (λ b. MatchBool b ((place : ℕ) → spot_in c.args.self.now place ≡ free 0) ((place : ℕ) × IsHeld (spot_in c.args.self.now place))) (sym same.0)
          (subst (λ (page : PageList). (place : ℕ) → spot_in page place ≡ free 0) c.self.view_is (spare-all c.self.inside c.self.invariant same.1))
      | inr apart ↦
          subst (λ b. MatchBool b ((place : ℕ) → spot_in c.args.self.now place ≡ free 0) ((place : ℕ) × IsHeld (spot_in c.args.self.now place))) (sym apart.0)
          (subst (λ (page : PageList). (place : ℕ) × IsHeld (spot_in page place)) c.self.view_is (spare-less c.self.inside c.self.invariant apart.1))
    ]
