use Rattle.std.proofs.Common.{arith}
use Rattle.judy_sets.proofs.RangeFacts.{within-most}
use Rattle.judy_c.specs.Combined.{combined_words}
use Rattle.judy_c.specs.Maps.{map_held}
use Rattle.judy_c.specs.NullArrays.{unbounded}
use Rattle.judy_c.proofs.CombinedAnswers.{combined, copied, made_of_words}
use Rattle.judy_c.proofs.ranges.copy_range.Goals as goal

pub returns-clause-answer : goal.returns-clause-answer
returns-clause-answer g c =
    let few = c.part_of-part.ensures.few in
    let most = within-most c.args.from c.args.to (map_held (g.H.Handle.held_by c.args.handle.now)) in
    copied _ _ _ _ (omega (arith, few, most)) (combined combined_words unbounded _ _ _ _ _ (made_of_words _ _ c.part_of-part.ensures.made) c.hand.ensures)
