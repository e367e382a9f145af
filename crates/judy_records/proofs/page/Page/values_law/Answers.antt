use Rattle.std.proofs.Common.{◌<◌, ◌*◌, ◌+◌, get_or, sym, ap, subst, ◌∙◌}
use Rattle.judy_model.specs.Keys.{IsWord}
use Rattle.judy_records.specs.PageSpots.{PageList, spot_in}
use Rattle.judy_records.specs.Spots.{value_of}
use Rattle.judy_records.proofs.PageStands.{word-value, seen-held}
use Rattle.judy_records.proofs.page.Page.values_law.Goals as goal

pub returns : goal.returns
returns c = λ place is.
    subst IsWord (ap (λ words. get_or words (place * (c.self.inside.size + 1)) 0) c.deref.ensures.value
    ∙ sym (word-value c.self.inside c.self.invariant place (seen-held c.self.inside c.self.invariant c.self.view_is place is))
    ∙ ap (λ (page : PageList). value_of (spot_in page place)) c.self.view_is)
    (c.law.ensures (place * (c.self.inside.size + 1)))
