use Rattle.std.proofs.Common.{◌≡◌, true, is_some, ap, ◌∙◌, sym, subst}
use Rattle.std.specs.Option.{ghost_name_of}
use borrow.Follows.Closed.{read_of}
use Rattle.judy_node.specs.Slots.{value_of, with_value}
use Rattle.judy_node.proofs.RootFacts.{root-level, root-path, root-there}
use Rattle.judy_node.proofs.node.NodeOf.present_slot.Goals as goal

pub invariant_of-self-lent : goal.invariant_of-self-lent
invariant_of-self-lent g c = λ _. (λ w. root-level g.V.Words.WORDS c.self.inside.place.kind c.args.key w c.requires.words c.self.invariant, c.self.invariant)

pub returns : goal.returns
returns g c =
    let there = root-there c.self.inside.place.kind c.args.key (subst (λ s. is_some (value_of c.args.key s.pairs) ≡ true) (sym c.self.view_is) c.requires.present) in (
      λ t. read_of (ghost_name_of c.slot.result)
          (λ w. (root-path c.self.inside.place.kind c.args.key w there ∙ ap (λ s. with_value s c.args.key w) c.self.view_is) t)
          (c.self.view_is t),
      record { changes = tt; value = c.slot.ensures.value ∙ ap (λ s. value_of c.args.key s.pairs) c.self.view_is },
    )
