use Rattle.std.proofs.Common.{refl, sym, ◌∙◌, ◌^◌}
use Rattle.judy_word.proofs.MapFacts.{get-value, value_in-is}
use Rattle.judy_word.proofs.RemovalFacts.{bounded-written}
use Rattle.judy_word.proofs.tree_array.TreeArray.slot.Goals as goal

pub invariant_of-self-lent : goal.invariant_of-self-lent
invariant_of-self-lent g c _ = (λ w. bounded-written _ _ w _ _ c.self.invariant, c.self.invariant)

pub returns : goal.returns
returns g c =
    rw (← c.self.view_is) (
      refl,
      record {
        changes = tt;
        value = c.slot.ensures.value ∙ sym (get-value g.V.Words.WORDS (256 ^ 8) _ c.law.ensures.map c.args.key ∙ value_in-is c.args.key _);
        held = record { node = c.law.ensures; bounded = c.self.invariant };
      },
    )
