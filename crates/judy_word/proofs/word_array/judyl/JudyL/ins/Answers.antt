use Rattle.std.proofs.Common.{not, refl, ap, ◌∙◌, arith}
use Rattle.judy_word.specs.WordArrays.{seen_as, with_value}
use Rattle.judy_word.proofs.ArrayFacts.{array-written, inserted-value, inserted-there, inserted-written}
use Rattle.judy_word.proofs.word_array.judyl.JudyL.ins.Goals as goal

pub slot_of-requires : goal.slot_of-requires
slot_of-requires c = (omega arith, (refl, inserted-there c.self.inside.tree c.set.new.self c.law.ensures c.args.i c.in_ok-set.ensures.set))

pub returns : goal.returns
returns c =
    rw (← c.self.view_is) (
      (
        refl,
        (λ left ok. record {
          array = inserted-written c.self.inside.tree c.set.new.self c.law.ensures c.args.i c.in_ok-set.ensures.set left;
          loose = c.set.ensures.loose;
          present = λ there.
              let kept = c.in_ok-set.ensures.present (c.in_ok-set.ensures.answer ∙ ap not there) in
              array-written c.set.new.self c.law.ensures c.args.i (inserted-there c.self.inside.tree c.set.new.self c.law.ensures c.args.i c.in_ok-set.ensures.set) left
              ∙ ap (λ held. with_value (seen_as held) c.args.i left) kept;
        }),
        tt,
      ),
      record {
        writes_back = tt;
        value = c.slot_of.ensures.value ∙ inserted-value c.self.inside.tree c.set.new.self c.law.ensures c.args.i c.in_ok-set.ensures.set;
        accepted = c.in_ok-set.ensures.accepted;
        refused = tt;
        empty = λ _. refl;
      },
    )
