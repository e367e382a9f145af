use Rattle.std.proofs.Common.{refl, sym, ap, ◌∙◌}
use Rattle.std.specs.FinMap.{get}
use Rattle.judy_model.specs.Arrays.{with_map}
use Rattle.judy_sl.specs.Pieces.{piece_of}
use Rattle.judy_sl.proofs.lemmas.counts.FirstWays.{unrooted}
use Rattle.judy_sl.proofs.lemmas.inserts.Tried.{shown-refused, first-absent, short-added}
use Rattle.judy_sl.proofs.lemmas.counts.Growing.{counted-same}
use Rattle.judy_sl.proofs.lemmas.counts.TriedCounts.{put-present, short-stays, short-counted}
use Rattle.judy_word.proofs.TrialLemmas.{put-absent, put-new}
use Rattle.judy_sl.proofs.lemmas.pieces.Strings.{string_of_key}
use Rattle.judy_sl.proofs.arena.Arena.try_short.Goals as goal

pub returns-in_err-added-clause-absent : goal.returns-in_err-added-clause-absent
returns-in_err-added-clause-absent g c =
    let key = string_of_key g.L.KeyLength c.args.key.now (c.is_key_of.ensures.0 c.if-not-is_key_of.false) in
    shown-refused _ c.from_residual.result c.from_residual.ensures.1 (first-absent c.args.self.now c.requires.is_arena c.args.key.now key c.first_piece-piece.result
    c.first_piece-piece.ensures c.in_err-added.ensures.absent)

pub returns-then-added-clause-absent : goal.returns-then-added-clause-absent
returns-then-added-clause-absent g c =
    let key = string_of_key g.L.KeyLength c.args.key.now (c.is_key_of.ensures.0 c.if-not-is_key_of.false) in
    let none = put-absent c.args.self.now.root.map c.first_piece-piece.result (sym c.if-added.true ∙ c.in_ok-added.ensures.answer) in
    first-absent c.args.self.now c.requires.is_arena c.args.key.now key c.first_piece-piece.result c.first_piece-piece.ensures none

pub returns-then-added-clause-added : goal.returns-then-added-clause-added
returns-then-added-clause-added g c =
    let key = string_of_key g.L.KeyLength c.args.key.now (c.is_key_of.ensures.0 c.if-not-is_key_of.false) in
    let none = put-absent c.args.self.now.root.map c.first_piece-piece.result (sym c.if-added.true ∙ c.in_ok-added.ensures.answer) in
    let words = c.in_ok-added.ensures.put ∙ ap (with_map c.args.self.now.root) (put-new c.args.self.now.root.map c.first_piece-piece.result 0 (sym c.if-added.true ∙ c.in_ok-added.ensures.answer)) in
    short-added c.args.self.now c.requires.is_arena c.args.key.now key c.first_piece-piece.result c.first_piece-piece.ensures
    none c.put_if_absent.new.self words c.requires.short

pub returns-then-added-clause-first : goal.returns-then-added-clause-first
returns-then-added-clause-first g c =
    let none = put-absent c.args.self.now.root.map c.first_piece-piece.result (sym c.if-added.true ∙ c.in_ok-added.ensures.answer) in
    unrooted c.args.self.now (piece_of c.args.key.now) (ap (get c.args.self.now.root.map) (sym c.first_piece-piece.ensures) ∙ none)

pub returns-then-added-clause-counted : goal.returns-then-added-clause-counted
returns-then-added-clause-counted g c =
    let key = string_of_key g.L.KeyLength c.args.key.now (c.is_key_of.ensures.0 c.if-not-is_key_of.false) in
    let none = put-absent c.args.self.now.root.map c.first_piece-piece.result (sym c.if-added.true ∙ c.in_ok-added.ensures.answer) in
    let words = c.in_ok-added.ensures.put ∙ ap (with_map c.args.self.now.root) (put-new c.args.self.now.root.map c.first_piece-piece.result 0 (sym c.if-added.true ∙ c.in_ok-added.ensures.answer)) in
    short-counted c.args.self.now c.requires.is_arena c.requires.led c.requires.counted c.args.key.now key c.first_piece-piece.result c.first_piece-piece.ensures
    none c.put_if_absent.new.self words (returns-then-added-clause-added g c)

pub returns-else-added-clause-counted : goal.returns-else-added-clause-counted
returns-else-added-clause-counted g c =
    let stayed = sym c.if-added.false ∙ c.in_ok-added.ensures.answer in
    let words = c.in_ok-added.ensures.put ∙ ap (with_map c.args.self.now.root) (put-present c.args.self.now.root.map c.first_piece-piece.result 0 stayed) in
    counted-same c.args.self.now (record c.args.self.now { root = c.put_if_absent.new.self }) (record { root = words; children = λ at. refl }) c.requires.counted

pub returns-then-added-clause-stays : goal.returns-then-added-clause-stays
returns-then-added-clause-stays g c = λ some.
    let none = put-absent c.args.self.now.root.map c.first_piece-piece.result (sym c.if-added.true ∙ c.in_ok-added.ensures.answer) in
    let words = c.in_ok-added.ensures.put ∙ ap (with_map c.args.self.now.root) (put-new c.args.self.now.root.map c.first_piece-piece.result 0 (sym c.if-added.true ∙ c.in_ok-added.ensures.answer)) in
    short-stays c.args.self.now c.requires.is_arena c.requires.led c.requires.counted c.args.key.now
    (string_of_key g.L.KeyLength c.args.key.now (c.is_key_of.ensures.0 c.if-not-is_key_of.false)) c.first_piece-piece.result c.first_piece-piece.ensures none c.put_if_absent.new.self words

pub returns-in_err-added-clause-counted : goal.returns-in_err-added-clause-counted
returns-in_err-added-clause-counted g c =
    counted-same c.args.self.now (record c.args.self.now { root = c.put_if_absent.new.self }) (record { root = c.in_err-added.ensures.unchanged; children = λ at. refl }) c.requires.counted
