use Rattle.std.proofs.Common.{◌∙◌, Option, None, length, refl, sym, ap, subst}
use Rattle.std.proofs.lemmas.List.{length-take-le}
use Rattle.std.specs.Option.{option_map}
use Rattle.judy_sl.specs.Arenas.{world_of}
use Rattle.judy_sl.specs.declared.scans.Scanned.{Scanned}
use Rattle.judy_sl.specs.Scans.{value_in, IsTurn}
use Rattle.judy_sl.proofs.lemmas.scans.ScanMaps.{measured}
use Rattle.judy_sl.proofs.arena.Arena.neighbour_len.Goals as goal

pub returns-in_err-turn : goal.returns-in_err-turn
returns-in_err-turn c =
    let none = subst (IsTurn c.args.look (world_of c.args.self.now) c.args.key.now) c.in_err-turn.was c.turn.ensures.is_turn in
    c.from_residual.ensures ∙ measured c.args.look c.args.self.now c.args.key.now c.turn.ensures.is_text c.args.key.now None (none, refl) (length c.args.key.now) refl

pub follow-requires-clause-begun : goal.follow-requires-clause-begun
follow-requires-clause-begun c =
    let at = subst (IsTurn c.args.look (world_of c.args.self.now) c.args.key.now) c.in_ok-turn.was c.turn.ensures.is_turn in
    (c.args.key.now, record { at = at; given = sym (length-take-le c.in_ok-turn.turn.depth c.args.key.now at.within) })

pub returns-in-Some : goal.returns-in-Some
returns-in-Some c =
    let at = subst (IsTurn c.args.look (world_of c.args.self.now) c.args.key.now) c.in_ok-turn.was c.turn.ensures.is_turn in
    let got = c.follow.ensures.found c.args.key.now (record { at = at; given = sym (length-take-le c.in_ok-turn.turn.depth c.args.key.now at.within) }) in
    ap (λ (one : Option Scanned). option_map (λ value. c.follow.new.key.len) (value_in one)) (sym c.in-Some.is)
    ∙ measured c.args.look c.args.self.now c.args.key.now c.turn.ensures.is_text got.bytes (value_in c.follow.result) got.are.0 c.follow.new.key.len got.given

pub returns-in-None : goal.returns-in-None
returns-in-None c =
    let at = subst (IsTurn c.args.look (world_of c.args.self.now) c.args.key.now) c.in_ok-turn.was c.turn.ensures.is_turn in
    let got = c.follow.ensures.found c.args.key.now (record { at = at; given = sym (length-take-le c.in_ok-turn.turn.depth c.args.key.now at.within) }) in
    ap (λ (one : Option Scanned). option_map (λ value. c.follow.new.key.len) (value_in one)) (sym c.in-None.is)
    ∙ measured c.args.look c.args.self.now c.args.key.now c.turn.ensures.is_text got.bytes (value_in c.follow.result) got.are.0 c.follow.new.key.len got.given
