use Rattle.std.proofs.Common.{◌≡◌, length, refl, sym, ap, subst, ◌∙◌, arith}
use Rattle.std.proofs.lemmas.List.{length-drop, take_rest}
use Rattle.std.specs.FinMap.{get, insert, remove}
use Rattle.judy_model.specs.Keys.{word_order}
use Rattle.judy_model.specs.Arrays.{ArrayOf, with_map}
use Rattle.judy_sl.specs.Pieces.{piece_of, IsText}
use Rattle.judy_tails.specs.Tails.{next_place}
use Rattle.judy_sl.proofs.lemmas.pieces.PieceLemmas.{text_of_key, text-drop}
use Rattle.judy_sl.proofs.lemmas.counts.FirstWays.{unrooted}
use Rattle.judy_sl.proofs.lemmas.inserts.Tried.{shown-refused, first-absent, first-added}
use Rattle.judy_sl.proofs.lemmas.counts.Growing.{counted-same}
use Rattle.judy_sl.proofs.lemmas.counts.TriedCounts.{put-present, tried-stays, tried-counted}
use Rattle.judy_word.proofs.TrialLemmas.{put-absent, put-new, put-undone}
use Rattle.judy_sl.proofs.lemmas.pieces.Strings.{string_of_key}
use Rattle.judy_sl.proofs.arena.Arena.try_add.Given.{Over}
use Rattle.judy_sl.proofs.arena.Arena.try_add.Goals as goal

pub returns-in_err-added-clause-absent : goal.returns-in_err-added-clause-absent
returns-in_err-added-clause-absent g c =
    let key = string_of_key g.L.KeyLength c.args.key.now (c.is_key_of.ensures.0 c.if-not-is_key_of.false) in
    shown-refused _ c.from_residual.result c.from_residual.ensures.1 (first-absent c.args.self.now c.requires.is_arena c.args.key.now key c.first_piece-piece.result
    c.first_piece-piece.ensures c.in_err-added.ensures.absent)

pub returns-in-Ok-clause-absent : goal.returns-in-Ok-clause-absent
returns-in-Ok-clause-absent g c =
    let key = string_of_key g.L.KeyLength c.args.key.now (c.is_key_of.ensures.0 c.if-not-is_key_of.false) in
    let added = sym c.if-not-added.false ∙ c.in_ok-added.ensures.answer in
    first-absent c.args.self.now c.requires.is_arena c.args.key.now key c.first_piece-piece.result c.first_piece-piece.ensures (put-absent c.args.self.now.root.map c.first_piece-piece.result added)

-- Its tail is a text.
pub put_tail_next-requires-clause-text : goal.put_tail_next-requires-clause-text
put_tail_next-requires-clause-text g c =
    let key = string_of_key g.L.KeyLength c.args.key.now (c.is_key_of.ensures.0 c.if-not-is_key_of.false) in
    subst IsText (sym (take_rest c.args.key.now 8)) (text-drop 8 c.args.key.now (text_of_key c.args.key.now key))

-- It goes to the place that was asked for, and the entry leads there.
pub put_tail_next-requires-clause-next : goal.put_tail_next-requires-clause-next
put_tail_next-requires-clause-next g c =
    c.next_place-next.ensures ∙ ap (next_place c.args.self.now.tails) (sym (ap length (take_rest c.args.key.now 8) ∙ length-drop 8 c.args.key.now))

words_is : (g : Over) (c : goal.In-Ok g) → c.put_if_absent.new.self ≡ with_map c.args.self.now.root (insert c.args.self.now.root.map c.first_piece-piece.result c.next_place-next.result)
words_is g c =
    let added = sym c.if-not-added.false ∙ c.in_ok-added.ensures.answer in
    c.in_ok-added.ensures.put
    ∙ ap (with_map c.args.self.now.root) (put-new c.args.self.now.root.map c.first_piece-piece.result c.next_place-next.result added)

pub returns-in-Ok-clause-added : goal.returns-in-Ok-clause-added
returns-in-Ok-clause-added g c =
    let key = string_of_key g.L.KeyLength c.args.key.now (c.is_key_of.ensures.0 c.if-not-is_key_of.false) in
    let long = c.if-key-lt8.false in
    let added = sym c.if-not-added.false ∙ c.in_ok-added.ensures.answer in
    first-added c.args.self.now c.requires.is_arena c.args.key.now key c.first_piece-piece.result c.first_piece-piece.ensures (put-absent c.args.self.now.root.map c.first_piece-piece.result added)
    c.put_if_absent.new.self c.put_tail_next.new.self c.next_place-next.result _ (words_is g c) c.in-Ok.ensures.put (omega arith) (take_rest c.args.key.now 8) refl

pub returns-in-Ok-clause-first : goal.returns-in-Ok-clause-first
returns-in-Ok-clause-first g c =
    let added = sym c.if-not-added.false ∙ c.in_ok-added.ensures.answer in
    let none = put-absent c.args.self.now.root.map c.first_piece-piece.result added in
    unrooted c.args.self.now (piece_of c.args.key.now) (ap (get c.args.self.now.root.map) (sym c.first_piece-piece.ensures) ∙ none)

pub returns-in-Err-clause-absent : goal.returns-in-Err-clause-absent
returns-in-Err-clause-absent g c =
    let key = string_of_key g.L.KeyLength c.args.key.now (c.is_key_of.ensures.0 c.if-not-is_key_of.false) in
    let added = sym c.if-not-added.false ∙ c.in_ok-added.ensures.answer in
    first-absent c.args.self.now c.requires.is_arena c.args.key.now key c.first_piece-piece.result c.first_piece-piece.ensures (put-absent c.args.self.now.root.map c.first_piece-piece.result added)

pub returns-in-Err-clause-refused : goal.returns-in-Err-clause-refused
returns-in-Err-clause-refused g c =
    let added = sym c.if-not-added.false ∙ c.in_ok-added.ensures.answer in
    let undone = c.del.ensures.deleted
    ∙ ap (λ (made : ArrayOf word_order). with_map made (remove made.map c.first_piece-piece.result)) (c.in-Err.ensures.refused.root ∙ c.in_ok-added.ensures.put)
    ∙ ap (with_map c.args.self.now.root) (put-undone c.args.self.now.root.map c.first_piece-piece.result c.next_place-next.result added) in
    record { root = undone; children = c.in-Err.ensures.refused.children }

pub returns-then-not-added-clause-counted : goal.returns-then-not-added-clause-counted
returns-then-not-added-clause-counted g c =
    let stayed = sym c.if-not-added.true ∙ c.in_ok-added.ensures.answer in
    let words = c.in_ok-added.ensures.put ∙ ap (with_map c.args.self.now.root) (put-present c.args.self.now.root.map c.first_piece-piece.result c.next_place-next.result stayed) in
    counted-same c.args.self.now (record c.args.self.now { root = c.put_if_absent.new.self }) (record { root = words; children = λ at. refl }) c.requires.counted

pub returns-in-Ok-clause-counted : goal.returns-in-Ok-clause-counted
returns-in-Ok-clause-counted g c =
    let key = string_of_key g.L.KeyLength c.args.key.now (c.is_key_of.ensures.0 c.if-not-is_key_of.false) in
    let added = sym c.if-not-added.false ∙ c.in_ok-added.ensures.answer in
    tried-counted c.args.self.now c.requires.is_arena c.requires.led c.requires.counted c.args.key.now key c.first_piece-piece.result c.first_piece-piece.ensures
    (put-absent c.args.self.now.root.map c.first_piece-piece.result added)
    c.put_if_absent.new.self c.put_tail_next.new.self c.next_place-next.result _ _ (words_is g c) c.in-Ok.ensures.put (returns-in-Ok-clause-added g c)

pub returns-in-Err-clause-counted : goal.returns-in-Err-clause-counted
returns-in-Err-clause-counted g c = counted-same c.args.self.now _ (returns-in-Err-clause-refused g c) c.requires.counted

pub returns-in-Ok-clause-stays : goal.returns-in-Ok-clause-stays
returns-in-Ok-clause-stays g c = λ some.
    let key = string_of_key g.L.KeyLength c.args.key.now (c.is_key_of.ensures.0 c.if-not-is_key_of.false) in
    let added = sym c.if-not-added.false ∙ c.in_ok-added.ensures.answer in
    tried-stays c.args.self.now c.requires.is_arena c.requires.led c.requires.counted c.args.key.now key c.first_piece-piece.result c.first_piece-piece.ensures
    (put-absent c.args.self.now.root.map c.first_piece-piece.result added) c.put_if_absent.new.self c.put_tail_next.new.self c.next_place-next.result _ (words_is g c) c.in-Ok.ensures.put

pub returns-in_err-added-clause-counted : goal.returns-in_err-added-clause-counted
returns-in_err-added-clause-counted g c =
    counted-same c.args.self.now (record c.args.self.now { root = c.put_if_absent.new.self }) (record { root = c.in_err-added.ensures.unchanged; children = λ at. refl }) c.requires.counted
