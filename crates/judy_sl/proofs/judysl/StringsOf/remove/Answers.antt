use Rattle.std.proofs.Common.{◌≡◌, ◌∙◌, Option, ℕ, is_some, sym, ap}
use Rattle.judy_sl.proofs.lemmas.removals.Removed.{bad-none, bad-deleted, key-deleted, count-some, strings-removed, strings-kept}
use Rattle.judy_sl.proofs.lemmas.pieces.Strings.{string_of_key}
use Rattle.judy_sl.proofs.lemmas.seats.Maps.{get-map}
use Rattle.judy_sl.proofs.judysl.StringsOf.remove.Goals as goal

-- Whether there is one.
some_is : {one other : Option ℕ} → one ≡ other → is_some one ≡ is_some other
some_is same = ap (λ (found : Option ℕ). is_some found) same

pub returns-then-not-is_key_of-clause-answer : goal.returns-then-not-is_key_of-clause-answer
returns-then-not-is_key_of-clause-answer g c =
    rw (← c.self.view_is) (sym (bad-none c.self.inside.limit c.self.inside.arena c.args.key.now g.L.KeyLength c.self.invariant.0
    (λ is. let b = sym (c.is_key_of.ensures.1 is) ∙ c.if-not-is_key_of.true in cc)))

pub returns-then-not-is_key_of-clause-deleted : goal.returns-then-not-is_key_of-clause-deleted
returns-then-not-is_key_of-clause-deleted g c =
    rw (← c.self.view_is) (bad-deleted c.self.inside.limit c.self.inside.arena c.args.key.now g.L.KeyLength c.self.invariant.0
    (λ is. let b = sym (c.is_key_of.ensures.1 is) ∙ c.if-not-is_key_of.true in cc))

pub overflow_sub-self : goal.overflow_sub-self
overflow_sub-self g c =
    count-some c.self.inside.limit c.self.inside.arena c.args.key.now (string_of_key g.L.KeyLength c.args.key.now
    (c.is_key_of.ensures.0 c.if-not-is_key_of.false)) c.remove-removed.new.arena c.remove-removed.ensures.shrunk
    c.self.inside.count c.self.invariant.0 (is_some c.remove-removed.result) (some_is c.remove-removed.ensures.answer) (sym c.is_some.ensures ∙ c.if-is_some.true)

pub invariant_of-self : goal.invariant_of-self
invariant_of-self g c = (
  strings-removed c.self.inside.limit c.self.inside.arena c.args.key.now (string_of_key g.L.KeyLength c.args.key.now
      (c.is_key_of.ensures.0 c.if-not-is_key_of.false)) c.remove-removed.new.arena c.remove-removed.ensures.shrunk
      c.self.inside.count c.self.invariant.0 (is_some c.remove-removed.result) (some_is c.remove-removed.ensures.answer) (sym c.is_some.ensures ∙ c.if-is_some.true),
  c.remove-removed.ensures.counted,
  c.remove-removed.ensures.firsts,
  c.remove-removed.ensures.listed,
)

pub invariant_of-self-else-is_some : goal.invariant_of-self-else-is_some
invariant_of-self-else-is_some g c = (
  strings-kept c.self.inside.limit c.self.inside.arena c.args.key.now (string_of_key g.L.KeyLength c.args.key.now
      (c.is_key_of.ensures.0 c.if-not-is_key_of.false)) c.remove-removed.new.arena c.remove-removed.ensures.shrunk
      c.self.inside.count c.self.invariant.0 (is_some c.remove-removed.result) (some_is c.remove-removed.ensures.answer) (sym c.is_some.ensures ∙ c.if-is_some.false),
  c.remove-removed.ensures.counted,
  c.remove-removed.ensures.firsts,
  c.remove-removed.ensures.listed,
)

pub returns-then-is_some-clause-answer : goal.returns-then-is_some-clause-answer
returns-then-is_some-clause-answer g c =
    rw (← c.self.view_is) (c.remove-removed.ensures.answer ∙ sym (get-map c.self.inside.arena c.args.key.now
    (string_of_key g.L.KeyLength c.args.key.now (c.is_key_of.ensures.0 c.if-not-is_key_of.false))))

pub returns-then-is_some-clause-deleted : goal.returns-then-is_some-clause-deleted
returns-then-is_some-clause-deleted g c =
    c.give_back.ensures ∙ rw (← c.self.view_is) (key-deleted c.self.inside.limit c.self.inside.arena c.args.key.now
    (string_of_key g.L.KeyLength c.args.key.now (c.is_key_of.ensures.0 c.if-not-is_key_of.false)) c.remove-removed.new.arena c.remove-removed.ensures.shrunk)

pub returns-else-is_some-clause-answer : goal.returns-else-is_some-clause-answer
returns-else-is_some-clause-answer g c =
    rw (← c.self.view_is) (c.remove-removed.ensures.answer ∙ sym (get-map c.self.inside.arena c.args.key.now
    (string_of_key g.L.KeyLength c.args.key.now (c.is_key_of.ensures.0 c.if-not-is_key_of.false))))

pub returns-else-is_some-clause-deleted : goal.returns-else-is_some-clause-deleted
returns-else-is_some-clause-deleted g c =
    rw (← c.self.view_is) (key-deleted c.self.inside.limit c.self.inside.arena c.args.key.now
    (string_of_key g.L.KeyLength c.args.key.now (c.is_key_of.ensures.0 c.if-not-is_key_of.false)) c.remove-removed.new.arena c.remove-removed.ensures.shrunk)

pub remove-removed-requires-clause-is_key : goal.remove-removed-requires-clause-is_key
remove-removed-requires-clause-is_key g c = string_of_key g.L.KeyLength c.args.key.now (c.is_key_of.ensures.0 c.if-not-is_key_of.false)

pub remove-removed-requires-clause-kept : goal.remove-removed-requires-clause-kept
remove-removed-requires-clause-kept g c = record { is_arena = c.self.invariant.0.is_arena; led = c.self.invariant.0.led; counted = c.self.invariant.1 }
