use Rattle.std.proofs.Common.{◌∙◌, ap, sym}
use Rattle.std.proofs.lemmas.List.{take_rest}
use Rattle.std.specs.FinMap.{get}
use Rattle.judy_sl.proofs.lemmas.removals.Shrinks.{lone-taken, cleared-tail, cleared-last, clearing-on, clearing-some}
use Rattle.judy_sl.proofs.arena.Arena.clear.Goals as goal

pub vacate-requires : goal.vacate-requires
vacate-requires c = record { taken = lone-taken c.loop-level.self c.loop-level.at _ c.loop-level.invariant.loose.lone }

pub returns-in_default : goal.returns-in_default
returns-in_default c =
    record {
      cleared = cleared-tail c.args.self.now c.loop-level.self c.vacate.new.self c.loop-level.at c.loop-level.rest.now c.loop-level.invariant c.vacate.ensures.vacated
          (sym c.vacate.ensures.level ∙ c.in_default.is);
    }

pub returns-then-rest-lt8 : goal.returns-then-rest-lt8
returns-then-rest-lt8 c =
    record {
      cleared = cleared-last c.args.self.now c.loop-level.self c.vacate.new.self c.loop-level.at c.loop-level.rest.now c.loop-level.invariant c.vacate.ensures.vacated c.in-Some.level
          (sym c.vacate.ensures.level ∙ c.in-Some.is) c.if-rest-lt8.true;
    }

pub unreachable-requires : goal.unreachable-requires
unreachable-requires c =
    clearing-some c.args.self.now c.loop-level.self c.vacate.new.self c.loop-level.at c.loop-level.rest.now c.loop-level.invariant c.vacate.ensures.vacated c.in-Some.level
    (sym c.vacate.ensures.level ∙ c.in-Some.is) c.if-rest-lt8.false (ap (λ p. get c.in-Some.level.map p) (sym c.first_piece.ensures) ∙ sym c.get.ensures ∙ c.in-None.is)

pub loop-level-preserved : goal.loop-level-preserved
loop-level-preserved c =
    rw take_rest (clearing-on c.args.self.now c.loop-level.self c.vacate.new.self c.loop-level.at c.loop-level.rest.now c.loop-level.invariant c.vacate.ensures.vacated c.in-Some.level
    (sym c.vacate.ensures.level ∙ c.in-Some.is) c.if-rest-lt8.false c.in-Some-get.next (ap (λ p. get c.in-Some.level.map p) (sym c.first_piece.ensures) ∙ sym c.get.ensures ∙ c.in-Some-get.is))
