use Rattle.std.proofs.Common.{◌≡◌, ℕ, ◌≤◌, false, IsSome, Option, None, Some, is_some, true≢false, refl, sym, ap, ◌∙◌, subst}
use Rattle.std.specs.FinMap.{get}
use Rattle.judy_sums.specs.Pairs.{number_at, lowered}
use Rattle.judy_sl.specs.Arenas.{map_of}
use Rattle.judy_sl.specs.Pieces.{piece_of}
use Rattle.judy_sl.specs.Firsts.{AreFirsts}
use Rattle.judy_sl.proofs.lemmas.counts.FirstWays.{gone_there, gone_some, gone_less, gone_last, gone_nothing}
use Rattle.judy_sl.proofs.firsts.remove_first.Goals as goal

-- Whether there is one.
some_is : {one other : Option ℕ} → one ≡ other → is_some one ≡ is_some other
some_is same = ap (λ (found : Option ℕ). is_some found) same

-- What isn't some is none.
from_false : (found : Option ℕ) → is_some found ≡ false → found ≡ None
from_false None is = refl
from_false (Some value) is = absurd (true≢false is)

pub returns-in_err-removed-clause-firsts : goal.returns-in_err-removed-clause-firsts
returns-in_err-removed-clause-firsts g c =
    gone_nothing c.args.arena.now c.remove.new.self c.args.key.now c.requires.is_key c.remove.ensures.shrunk c.args.firsts.now c.requires.firsts (some_is c.in_err-removed.ensures.answer)

pub lower-requires-clause-there : goal.lower-requires-clause-there
lower-requires-clause-there g c =
    let others = sym c.in_ok-removed.ensures.beside ∙ c.if-removed.true in
    subst (λ word. IsSome (get c.args.firsts.now word)) (sym c.first_piece.ensures)
    (gone_there c.args.arena.now c.remove.new.self c.args.key.now c.requires.is_key c.remove.ensures.shrunk c.args.firsts.now c.requires.firsts (some_is c.in_ok-removed.ensures.answer) others)

pub lower-requires-clause-some : goal.lower-requires-clause-some
lower-requires-clause-some g c =
    let others = sym c.in_ok-removed.ensures.beside ∙ c.if-removed.true in
    subst (λ word. 1 ≤ number_at c.args.firsts.now word) (sym c.first_piece.ensures)
    (gone_some c.args.arena.now c.remove.new.self c.args.key.now c.requires.is_key c.remove.ensures.shrunk c.args.firsts.now c.requires.firsts (some_is c.in_ok-removed.ensures.answer) others)

pub returns-then-removed-clause-firsts : goal.returns-then-removed-clause-firsts
returns-then-removed-clause-firsts g c =
    let others = sym c.in_ok-removed.ensures.beside ∙ c.if-removed.true in
    subst (AreFirsts (map_of c.remove.new.self)) (sym (c.lower.ensures ∙ ap (lowered c.args.firsts.now) c.first_piece.ensures))
    (gone_less c.args.arena.now c.remove.new.self c.args.key.now c.requires.is_key c.remove.ensures.shrunk c.args.firsts.now c.requires.firsts (some_is c.in_ok-removed.ensures.answer) others)

pub returns-else-removed-clause-firsts : goal.returns-else-removed-clause-firsts
returns-else-removed-clause-firsts g c =
    let none = from_false (get c.remove.new.self.root.map (piece_of c.args.key.now)) (sym c.in_ok-removed.ensures.beside ∙ c.if-removed.false) in
    gone_last c.args.arena.now c.remove.new.self c.args.key.now c.requires.is_key c.remove.ensures.shrunk c.args.firsts.now c.requires.firsts (some_is c.in_ok-removed.ensures.answer) none
