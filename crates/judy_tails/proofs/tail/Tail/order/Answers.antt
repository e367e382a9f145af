use Rattle.std.proofs.Common.{ap, ◌∙◌}
use Rattle.judy_model.specs.Keys.{byte_order}
use Rattle.judy_tails.proofs.TailLemmas.{whole-order}
use Rattle.judy_tails.proofs.tail.Tail.order.Goals as goal

pub returns : goal.returns
returns c =
    c.order.ensures
    ∙ whole-order c.self.inside.stored c.self.invariant c.args.text.now c.requires
    ∙ ap (λ tail. byte_order tail.0 c.args.text.now) c.self.view_is
