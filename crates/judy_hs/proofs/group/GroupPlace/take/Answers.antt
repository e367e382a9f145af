use Rattle.std.proofs.Common.{◌≡◌, ℕ, List, Option, None, Some, IfSome, refl, sym, ap, ◌∙◌}
use Rattle.std.specs.FinMap.{get}
use Rattle.judy_model.specs.Arrays.{ArrayOf, with_map, del}
use Rattle.judy_model.specs.Keys.{word_order}
use Rattle.judy_hs.specs.Groups.{IsGroupLess, short, long}
use Rattle.judy_hs.specs.LongGroups.{Long, IsLongLess}
use Rattle.judy_hs.specs.declared.group.Inside.TheVariants.{Word, Chained}
use Rattle.judy_hs.proofs.group.GroupPlace.take.Goals as goal

-- what is left of a long group is the group that is left
long-less : (found : Option ℕ) (group : Long) (part : ℕ) (key : List ℕ) (after : Long) → IfSome found (λ _. IsLongLess group part key after) →
    IfSome found (λ _. IsGroupLess (long group) part key (long after))
long-less None group part key after less = tt
long-less (Some value) group part key after less = record { inside = Chained less.place; stood = less.stood; less = ap long less.less }

-- what is left of a short one
short-less : (words : ArrayOf word_order) (part : ℕ) (key : List ℕ) (after : ArrayOf word_order) (found : Option ℕ) → found ≡ get words.map part →
    after ≡ with_map words (del words.map part) → IfSome found (λ _. IsGroupLess (short words) part key (short after))
short-less words part key after None was less = tt
short-less words part key after (Some value) was less = record { inside = Word part; stood = (refl, (value, sym was)); less = ap short less }

pub returns-in-Short-clause-taken : goal.returns-in-Short-clause-taken
returns-in-Short-clause-taken c =
    rw c.in-Short.is (short-less c.in-Short.words c.args.part c.args.key.now c.remove.new.self c.remove.result c.remove.ensures.answer c.remove.ensures.removed)

pub returns-in-Long-clause-taken : goal.returns-in-Long-clause-taken
returns-in-Long-clause-taken c = rw c.in-Long.is (long-less c.take.result c.in-Long.group c.args.part c.args.key.now c.take.new.self c.take.ensures.taken)
