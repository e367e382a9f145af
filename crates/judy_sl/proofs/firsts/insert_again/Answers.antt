use Rattle.std.proofs.Common.{◌≡◌, ◌∙◌, ℕ, ◌<◌, sym, ap, subst, arith}
use Rattle.std.specs.FinMap.{FinMap, len, get}
use Rattle.judy_model.specs.Keys.{byte_order}
use Rattle.judy_sl.specs.Arenas.{world_of}
use Rattle.judy_sl.specs.Ways.{levels_passed}
use Rattle.judy_sl.proofs.lemmas.pieces.PieceLemmas.{text_of_key}
use Rattle.judy_sl.proofs.lemmas.pieces.Exact.{ends-text}
use Rattle.judy_sl.proofs.lemmas.counts.PassedLevels.{passed-few}
use Rattle.judy_sl.proofs.lemmas.moves.Settled.{settled-then, settled-firsts, settled-listed}
use Rattle.judy_sl.proofs.lemmas.moves.Tries.{same_settled, settled_added, absent_new, if_ok, on_err}
use Rattle.judy_sl.proofs.firsts.insert_again.Goals as goal

pub returns-then-not-settle_again-clause-counted : goal.returns-then-not-settle_again-clause-counted
returns-then-not-settle_again-clause-counted c = c.settle_again.ensures.settled.kept.counted

pub returns-then-not-settle_again-clause-refused : goal.returns-then-not-settle_again-clause-refused
returns-then-not-settle_again-clause-refused c = c.settle_again.ensures.settled

pub returns-then-not-settle_again-clause-firsts : goal.returns-then-not-settle_again-clause-firsts
returns-then-not-settle_again-clause-firsts c =
    settled-firsts c.args.arena.now c.settle_again.new.self c.settle_again.ensures.settled c.args.firsts.now c.requires.firsts

pub returns-then-not-settle_again-clause-listed : goal.returns-then-not-settle_again-clause-listed
returns-then-not-settle_again-clause-listed c =
    settled-listed c.args.arena.now c.settle_again.new.self c.settle_again.ensures.settled c.args.lists.now c.requires.listed

pub settle_again-requires : goal.settle_again-requires
settle_again-requires c = record { kept = c.requires.kept }

pub walk-way-requires-clause-is_arena : goal.walk-way-requires-clause-is_arena
walk-way-requires-clause-is_arena c = c.settle_again.ensures.settled.kept.is_arena

pub walk-way-requires-clause-ends : goal.walk-way-requires-clause-ends
walk-way-requires-clause-ends c = ends-text c.args.key.now (text_of_key c.args.key.now c.requires.is_key)

pub insert_counted-requires-clause-kept : goal.insert_counted-requires-clause-kept
insert_counted-requires-clause-kept c = c.settle_again.ensures.settled.kept

pub insert_counted-requires-clause-way : goal.insert_counted-requires-clause-way
insert_counted-requires-clause-way c = c.walk-way.ensures.way (text_of_key c.args.key.now c.requires.is_key)

pub insert_counted-requires-clause-new : goal.insert_counted-requires-clause-new
insert_counted-requires-clause-new c =
    absent_new c.settle_again.new.self c.settle_again.ensures.settled.kept.is_arena c.args.key.now c.requires.is_key c.walk-way.result
    (c.walk-way.ensures.way (text_of_key c.args.key.now c.requires.is_key))
    (ap (λ (m : FinMap byte_order ℕ). get m c.args.key.now) c.settle_again.ensures.settled.same ∙ c.requires.absent)

pub insert_counted-requires-clause-passed : goal.insert_counted-requires-clause-passed
insert_counted-requires-clause-passed c =
    let within = c.requires.is_key.is_bytes_key.within_limit in
    c.noted.ensures (levels_passed (world_of c.settle_again.new.self) c.args.key.now)
    (passed-few (world_of c.settle_again.new.self) c.args.key.now 1152921504606846975 (omega (arith, within)))
    (c.walk-way.ensures.passed (text_of_key c.args.key.now c.requires.is_key))

pub insert_counted-requires-clause-few : goal.insert_counted-requires-clause-few
insert_counted-requires-clause-few c = subst (λ (m : FinMap byte_order ℕ). len m < 4294967295) (sym c.settle_again.ensures.settled.same) c.requires.few

pub insert_counted-requires-clause-firsts : goal.insert_counted-requires-clause-firsts
insert_counted-requires-clause-firsts c = settled-firsts c.args.arena.now c.settle_again.new.self c.settle_again.ensures.settled c.args.firsts.now c.requires.firsts

pub insert_counted-requires-clause-listed : goal.insert_counted-requires-clause-listed
insert_counted-requires-clause-listed c = settled-listed c.args.arena.now c.settle_again.new.self c.settle_again.ensures.settled c.args.lists.now c.requires.listed

pub returns-clause-added : goal.returns-clause-added
returns-clause-added c =
    if_ok c.insert_counted.result
    (λ made added. settled_added c.args.arena.now c.settle_again.new.self c.requires.kept.is_arena c.settle_again.ensures.settled c.insert_counted.new.arena c.args.key.now made added)
    c.insert_counted.ensures.added

pub returns-clause-refused : goal.returns-clause-refused
returns-clause-refused c =
    on_err c.insert_counted.result
    (λ same. settled-then c.args.arena.now c.settle_again.new.self c.insert_counted.new.arena c.settle_again.ensures.settled
    (same_settled c.settle_again.new.self c.insert_counted.new.arena c.settle_again.ensures.settled.kept same)) c.insert_counted.ensures.refused
