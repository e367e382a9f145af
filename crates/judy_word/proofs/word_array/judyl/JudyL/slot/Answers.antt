use Rattle.std.proofs.Common.{Some, refl}
use Rattle.judy_word.proofs.ArrayFacts.{lent_slot}
use Rattle.judy_word.proofs.word_array.judyl.JudyL.slot.Goals as goal

pub returns : goal.returns
returns c =
    rw (← c.self.view_is) (
      lent_slot c.self.inside.tree c.slot.ensures.held c.slot.result (Some c.args.i) 0 c.args.i refl c.slot.ensures.value,
      record {
        writes_back = tt;
        value = c.slot.ensures.value;
      },
    )
