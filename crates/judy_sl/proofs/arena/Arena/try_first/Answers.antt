use Rattle.std.proofs.Common.{ap}
use Rattle.judy_sl.specs.declared.arena.Arena.{Arena}
use Rattle.judy_sl.specs.Arenas.{child_at}
use Rattle.judy_sl.proofs.lemmas.moves.Settled.{settled-then}
use Rattle.judy_sl.proofs.lemmas.moves.Tries.{same_settled}
use Rattle.judy_sl.proofs.arena.Arena.try_first.Goals as goal

-- Where memory is refused nothing has changed.
pub settle_again-requires : goal.settle_again-requires
settle_again-requires g c = record {
  kept = (same_settled c.args.self.now c.try_add.new.self (record { is_arena = c.requires.is_arena; led = c.requires.led; counted = c.requires.counted }) c.in-Err.ensures.refused).kept;
}

pub returns-in-Ok-clause-open : goal.returns-in-Ok-clause-open
returns-in-Ok-clause-open g c = λ none.
    let same = c.in-Ok.ensures.open none in
    same_settled c.args.self.now c.try_add.new.self (record { is_arena = c.requires.is_arena; led = c.requires.led; counted = c.requires.counted })
    (record { root = ap (λ (a : Arena). a.root) same; children = λ at. ap (λ (a : Arena). child_at a at) same })

pub returns-then-settle_again-clause-open : goal.returns-then-settle_again-clause-open
returns-then-settle_again-clause-open g c = λ none.
    settled-then c.args.self.now c.try_add.new.self c.settle_again.new.self
    (same_settled c.args.self.now c.try_add.new.self (record { is_arena = c.requires.is_arena; led = c.requires.led; counted = c.requires.counted }) c.in-Err.ensures.refused)
    c.settle_again.ensures.settled

pub returns-else-settle_again-clause-refused : goal.returns-else-settle_again-clause-refused
returns-else-settle_again-clause-refused g c =
    settled-then c.args.self.now c.try_add.new.self c.settle_again.new.self
    (same_settled c.args.self.now c.try_add.new.self (record { is_arena = c.requires.is_arena; led = c.requires.led; counted = c.requires.counted }) c.in-Err.ensures.refused)
    c.settle_again.ensures.settled

pub returns-then-settle_again-clause-counted : goal.returns-then-settle_again-clause-counted
returns-then-settle_again-clause-counted g c = c.settle_again.ensures.settled.kept.counted

pub returns-else-settle_again-clause-counted : goal.returns-else-settle_again-clause-counted
returns-else-settle_again-clause-counted g c = c.settle_again.ensures.settled.kept.counted
