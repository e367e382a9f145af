use Rattle.std.proofs.Common.{◌≡◌, ◌^◌, true, is_some, refl, sym, ap, ◌∙◌, subst, arith}
use Rattle.std.specs.FinMap.{get}
use Rattle.judy_word.specs.Held.{map_in}
use Rattle.judy_word.proofs.MapFacts.{get-value, value_in-is}
use Rattle.judy_word.proofs.RemovalFacts.{bounded-written}
use Rattle.judy_word.proofs.tree_array.TreeArray.slot_of.Goals as goal

pub slot_of-requires : goal.slot_of-requires
slot_of-requires g c = (
  omega arith,
  (
    c.requires.words,
    ap is_some (sym (get-value g.V.Words.WORDS (256 ^ 8) _ c.law.ensures.map c.args.key ∙ value_in-is c.args.key _))
        ∙ subst (λ held. is_some (get (map_in held) c.args.key) ≡ true) (sym c.self.view_is) c.requires.present,
  ),
)

pub invariant_of-self-lent : goal.invariant_of-self-lent
invariant_of-self-lent g c = λ w. bounded-written _ _ w _ _ c.self.invariant

pub returns : goal.returns
returns g c =
    rw (← c.self.view_is) (
      (refl, λ w. refl),
      record {
        changes = tt;
        value = c.slot_of.ensures.value ∙ sym (get-value g.V.Words.WORDS (256 ^ 8) _ c.law.ensures.map c.args.key ∙ value_in-is c.args.key _);
        held = record { node = c.law.ensures; bounded = c.self.invariant };
      },
    )
