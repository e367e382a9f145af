use Rattle.std.proofs.Common.{ℕ, ◌≤◌, IsSome, sym, ap, ◌∙◌, subst, arith}
use Rattle.std.specs.FinMap.{FinMap, get}
use Rattle.judy_model.specs.Keys.{word_order}
use Rattle.judy_sums.specs.Pairs.{number_at, raised, lowered}
use Rattle.judy_sums.proofs.Raised.{lowered_raised}
use Rattle.judy_sl.specs.Arenas.{map_of}
use Rattle.judy_sl.specs.Firsts.{AreFirsts}
use Rattle.judy_sl.specs.Pieces.{piece_of}
use Rattle.judy_sl.proofs.lemmas.counts.Beginnings.{firsts_sum, firsts_len, firsts_more, number_some, number_there}
use Rattle.judy_sl.proofs.lemmas.counts.FirstWays.{begun_none, begun_some, firsts_same, added_more, tried_first}
use Rattle.judy_sl.proofs.lemmas.inserts.Inserted.{way-none}
use Rattle.judy_sl.proofs.lemmas.seats.Maps.{get-map}
use Rattle.judy_sl.proofs.firsts.insert_first.Goals as goal

pub raise-requires-clause-fits : goal.raise-requires-clause-fits
raise-requires-clause-fits c = let sum = firsts_sum (map_of c.args.arena.now) c.args.firsts.now c.requires.firsts in let few = c.requires.few in omega arith

pub raise-requires-clause-few : goal.raise-requires-clause-few
raise-requires-clause-few c = let words = firsts_len (map_of c.args.arena.now) c.args.firsts.now c.requires.firsts in let few = c.requires.few in omega arith

pub returns-then-ends_first-clause-firsts : goal.returns-then-ends_first-clause-firsts
returns-then-ends_first-clause-firsts c =
    let none = get-map c.args.arena.now c.args.key.now c.requires.is_key ∙ way-none c.args.arena.now c.args.key.now c.args.way c.requires.way c.requires.new in
    let nothing = begun_none c.args.arena.now c.requires.kept.is_arena c.args.key.now c.args.way c.requires.way (sym c.ends_first.ensures ∙ c.if-ends_first.true) in
    tried_first c.args.arena.now c.add_counted.new.self c.args.key.now c.requires.is_key none c.args.firsts.now c.requires.firsts nothing c.add_counted.result
    c.add_counted.ensures.added c.add_counted.ensures.refused

pub lower-requires-clause-there : goal.lower-requires-clause-there
lower-requires-clause-there c =
    let is = c.in_ok-raise.ensures.raised ∙ ap (raised c.args.firsts.now) c.first_piece-piece.ensures in
    let none = get-map c.args.arena.now c.args.key.now c.requires.is_key ∙ way-none c.args.arena.now c.args.key.now c.args.way c.requires.way c.requires.new in
    let some = begun_some c.args.arena.now c.requires.kept.is_arena c.args.key.now c.args.way c.requires.way c.requires.new (sym c.ends_first.ensures ∙ c.if-ends_first.false) in
    subst (λ (firsts : FinMap word_order ℕ). IsSome (get firsts c.first_piece-piece.result)) (sym is)
    (subst (λ word. IsSome (get (raised c.args.firsts.now (piece_of c.args.key.now)) word)) (sym c.first_piece-piece.ensures)
    (number_there (map_of c.args.arena.now) c.args.key.now 0 none (raised c.args.firsts.now (piece_of c.args.key.now)) some
    (firsts_more (map_of c.args.arena.now) c.args.key.now 0 none c.args.firsts.now some c.requires.firsts)))

pub lower-requires-clause-some : goal.lower-requires-clause-some
lower-requires-clause-some c =
    let is = c.in_ok-raise.ensures.raised ∙ ap (raised c.args.firsts.now) c.first_piece-piece.ensures in
    let none = get-map c.args.arena.now c.args.key.now c.requires.is_key ∙ way-none c.args.arena.now c.args.key.now c.args.way c.requires.way c.requires.new in
    let some = begun_some c.args.arena.now c.requires.kept.is_arena c.args.key.now c.args.way c.requires.way c.requires.new (sym c.ends_first.ensures ∙ c.if-ends_first.false) in
    subst (λ (firsts : FinMap word_order ℕ). 1 ≤ number_at firsts c.first_piece-piece.result) (sym is)
    (subst (λ word. 1 ≤ number_at (raised c.args.firsts.now (piece_of c.args.key.now)) word) (sym c.first_piece-piece.ensures)
    (number_some (map_of c.args.arena.now) c.args.key.now 0 none (raised c.args.firsts.now (piece_of c.args.key.now)) some
    (firsts_more (map_of c.args.arena.now) c.args.key.now 0 none c.args.firsts.now some c.requires.firsts)))

pub returns-in-Ok-clause-firsts : goal.returns-in-Ok-clause-firsts
returns-in-Ok-clause-firsts c =
    let is = c.in_ok-raise.ensures.raised ∙ ap (raised c.args.firsts.now) c.first_piece-piece.ensures in
    let none = get-map c.args.arena.now c.args.key.now c.requires.is_key ∙ way-none c.args.arena.now c.args.key.now c.args.way c.requires.way c.requires.new in
    let some = begun_some c.args.arena.now c.requires.kept.is_arena c.args.key.now c.args.way c.requires.way c.requires.new (sym c.ends_first.ensures ∙ c.if-ends_first.false) in
    subst (AreFirsts (map_of c.add_counted-2.new.self)) (sym is)
    (added_more c.args.arena.now c.add_counted-2.new.self c.args.key.now c.requires.is_key none c.args.firsts.now c.requires.firsts some c.in-Ok.place c.in-Ok.ensures.added)

pub returns-in-Err-clause-firsts : goal.returns-in-Err-clause-firsts
returns-in-Err-clause-firsts c =
    let word = c.first_piece-piece.result in
    let is = c.in_ok-raise.ensures.raised in
    let back = c.lower.ensures ∙ ap (λ (firsts : FinMap word_order ℕ). lowered firsts word) is ∙ lowered_raised c.args.firsts.now word c.requires.firsts.some in
    subst (AreFirsts (map_of c.add_counted-2.new.self)) (sym back)
    (firsts_same c.args.arena.now c.add_counted-2.new.self c.in-Err.ensures.refused c.args.firsts.now c.requires.firsts)
