use Rattle.std.proofs.Common.{◌≡◌, ℕ, Bool, true, false, Option, is_some, refl, sym, ap, ◌∙◌}
use Rattle.std.specs.FinMap.{find}
use Rattle.judy_model.specs.Keys.{word_order}
use Rattle.judy_sums.specs.Chunks.{StandsAt, joined}
use Rattle.judy_sums.proofs.SpotLemmas.{found_is, spot_absent}
use Rattle.judy_sums.proofs.steps.holds.Goals as goal

pub returns : goal.returns
returns c = by c.stands.result c.stands.ensures.there c.stands.ensures.apart
  where
    by : (held : Bool) → (held ≡ true → StandsAt c.args.chunks.now c.args.word c.spot_of.result.chunk c.spot_of.result.at)
        → (held ≡ false → StandsAt c.args.chunks.now c.args.word c.spot_of.result.chunk c.spot_of.result.at → ⊥) → held ≡ is_some (find word_order c.args.word (joined c.args.chunks.now))
    by true there apart =
        let here = there refl in
        sym (ap (λ (found : Option ℕ). is_some found) (ap (λ w. find word_order w (joined c.args.chunks.now)) (sym here.stands.text)
        ∙ found_is c.args.chunks.now c.spot_of.result.chunk c.spot_of.result.at c.requires here.within here.stands.within))
    by false there apart =
        sym (ap (λ (found : Option ℕ). is_some found) (spot_absent c.args.chunks.now c.args.word c.spot_of.result.chunk c.spot_of.result.at c.requires c.spot_of.ensures (apart refl)))
