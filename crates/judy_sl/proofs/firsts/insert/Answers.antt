use Rattle.std.proofs.Common.{◌≡◌, ◌∙◌, ℕ, ◌<◌, sym, ap, subst}
use Rattle.std.specs.FinMap.{FinMap, len, get}
use Rattle.judy_model.specs.Keys.{byte_order}
use Rattle.judy_sl.specs.Arenas.{map_of}
use Rattle.judy_sl.specs.Settled.{IsSettled}
use Rattle.judy_sl.proofs.lemmas.inserts.Inserted.{way-none}
use Rattle.judy_sl.proofs.lemmas.seats.Maps.{get-map}
use Rattle.judy_sl.proofs.lemmas.moves.Settled.{settled-then}
use Rattle.judy_sl.proofs.lemmas.moves.Tries.{same_settled, settled_added, if_ok, on_err}
use Rattle.judy_sl.proofs.firsts.insert.Goals.{In-Err}
use Rattle.judy_sl.proofs.firsts.insert.Goals as goal

-- Nothing has changed so far.
settled : (c : In-Err) → IsSettled c.args.arena.now c.insert_counted.new.arena
settled c =
    same_settled c.args.arena.now c.insert_counted.new.arena c.requires.kept c.in-Err.ensures.refused

pub insert_again-requires-clause-kept : goal.insert_again-requires-clause-kept
insert_again-requires-clause-kept c = (settled (goal.at.insert_again-requires-clause-kept c).In-Err).kept

pub insert_again-requires-clause-absent : goal.insert_again-requires-clause-absent
insert_again-requires-clause-absent c =
    ap (λ (m : FinMap byte_order ℕ). get m c.args.key.now) (settled (goal.at.insert_again-requires-clause-absent c).In-Err).same
    ∙ get-map c.args.arena.now c.args.key.now c.requires.is_key
    ∙ way-none c.args.arena.now c.args.key.now c.args.way c.requires.way c.requires.new

pub insert_again-requires-clause-few : goal.insert_again-requires-clause-few
insert_again-requires-clause-few c =
    subst (λ (m : FinMap byte_order ℕ). len m < 4294967295) (sym (settled (goal.at.insert_again-requires-clause-few c).In-Err).same) c.requires.few

pub returns-in-Err-clause-added : goal.returns-in-Err-clause-added
returns-in-Err-clause-added c =
    if_ok c.insert_again.result
    (λ made added. settled_added c.args.arena.now c.insert_counted.new.arena c.requires.kept.is_arena (settled (goal.at.returns-in-Err-clause-added c).In-Err) c.insert_again.new.arena
    c.args.key.now made added) c.insert_again.ensures.added

pub returns-in-Err-clause-refused : goal.returns-in-Err-clause-refused
returns-in-Err-clause-refused c =
    on_err c.insert_again.result
    (λ later. settled-then c.args.arena.now c.insert_counted.new.arena c.insert_again.new.arena (settled (goal.at.returns-in-Err-clause-refused c).In-Err) later) c.insert_again.ensures.refused
