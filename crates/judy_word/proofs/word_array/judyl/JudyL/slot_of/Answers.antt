use Rattle.std.proofs.Common.{refl}
use Rattle.judy_word.proofs.ArrayFacts.{array-written, value-there}
use Rattle.judy_word.proofs.word_array.judyl.JudyL.slot_of.Goals as goal

pub returns : goal.returns
returns c =
    rw (← c.self.view_is) (
      (refl, array-written c.self.inside.tree c.slot_of.ensures.held c.args.i (value-there c.slot_of.ensures.value)),
      record {
        writes_back = tt;
        value = c.slot_of.ensures.value;
      },
    )
