use Rattle.std.proofs.Common.{ap, ◌∙◌, sym}
use Rattle.std.specs.Option.{ghost_name_of}
use borrow.Follows.Closed.{read_of}
use Rattle.judy_node.specs.Slots.{value_of, with_value}
use Rattle.judy_node.proofs.RootFacts.{root-level, root-path}
use Rattle.judy_node.proofs.node.NodeOf.slot.Goals as goal

pub invariant_of-self-lent : goal.invariant_of-self-lent
invariant_of-self-lent g c = λ _. (λ w. root-level g.V.Words.WORDS c.self.inside.place.kind c.args.key w c.requires.words c.self.invariant, c.self.invariant)

pub returns : goal.returns
returns g c = (
  λ t. read_of (ghost_name_of c.slot.result)
      (λ w. (root-path c.self.inside.place.kind c.args.key w (sym c.misses.ensures ∙ c.if-misses.false) ∙ ap (λ s. with_value s c.args.key w) c.self.view_is) t)
      (c.self.view_is t),
  record { changes = tt; value = c.slot.ensures.value ∙ ap (λ s. value_of c.args.key s.pairs) c.self.view_is },
)
