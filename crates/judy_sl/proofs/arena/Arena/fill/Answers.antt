use Rattle.std.proofs.Common.{◌∙◌, refl, sym, subst, ◌-◌, ◌+◌, length}
use Rattle.std.proofs.lemmas.List.{drop-drop, take_rest}
use Rattle.judy_sl.specs.Grown.{IsAdded}
use Rattle.judy_sl.proofs.lemmas.inserts.Filled.{fills-last}
use Rattle.judy_sl.proofs.lemmas.inserts.Tailed.{filled-tail}
use Rattle.judy_sl.proofs.lemmas.counts.Growing.{grows-last, grows-tail, stays-grown, gap-counted}
use Rattle.judy_sl.proofs.arena.Arena.fill.Goals as goal

-- ---- the last piece

pub returns-then-left-lt8-clause-added : goal.returns-then-left-lt8-clause-added
returns-then-left-lt8-clause-added c =
    subst (λ a. IsAdded c.args.self.now a c.args.key.now c.args.place) (sym c.in_ok-enter.ensures.entered)
    (fills-last c.args.self.now c.requires.is_arena c.args.key.now c.requires.is_key c.args.place c.args.left c.requires.gap c.if-left-lt8.true)

pub returns-then-left-lt8-clause-counted : goal.returns-then-left-lt8-clause-counted
returns-then-left-lt8-clause-counted c =
    gap-counted c.args.self.now c.requires.is_arena c.requires.led c.requires.counted c.args.key.now c.requires.is_key c.args.place c.args.left c.requires.gap _ c.args.place
    (returns-then-left-lt8-clause-added c) (grows-last c.args.self.now c.args.key.now c.args.place c.args.left c.requires.gap _ c.in_ok-enter.ensures.entered)

-- ---- a tail, and the entry that leads to it

pub returns-in-Ok-clause-added : goal.returns-in-Ok-clause-added
returns-in-Ok-clause-added c =
    filled-tail c.args.self.now c.put_tail.new.self c.enter-2.new.self c.args.key.now c.args.place c.args.left c.in_ok-at.at _ c.requires.is_arena c.requires.is_key
    c.requires.gap c.if-left-lt8.false c.in_ok-at.ensures.put c.in-Ok.ensures.entered
    (take_rest c.args.key.now (length c.args.key.now - c.args.left + 8) ∙ sym (drop-drop 8 (length c.args.key.now - c.args.left) c.args.key.now)) refl

pub returns-in-Ok-clause-counted : goal.returns-in-Ok-clause-counted
returns-in-Ok-clause-counted c =
    gap-counted c.args.self.now c.requires.is_arena c.requires.led c.requires.counted c.args.key.now c.requires.is_key c.args.place c.args.left c.requires.gap c.enter-2.new.self _
    (returns-in-Ok-clause-added c)
    (grows-tail c.args.self.now c.args.key.now c.args.place c.args.left c.requires.gap c.put_tail.new.self c.enter-2.new.self c.in_ok-at.at _ c.in_ok-at.ensures.put c.in-Ok.ensures.entered)

-- ---- the levels

pub returns-then-left-lt8-clause-stays : goal.returns-then-left-lt8-clause-stays
returns-then-left-lt8-clause-stays c =
    stays-grown c.args.self.now _ (grows-last c.args.self.now c.args.key.now c.args.place c.args.left c.requires.gap _ c.in_ok-enter.ensures.entered)

pub returns-in-Ok-clause-stays : goal.returns-in-Ok-clause-stays
returns-in-Ok-clause-stays c =
    stays-grown c.args.self.now c.enter-2.new.self
    (grows-tail c.args.self.now c.args.key.now c.args.place c.args.left c.requires.gap c.put_tail.new.self c.enter-2.new.self c.in_ok-at.at _ c.in_ok-at.ensures.put c.in-Ok.ensures.entered)
