use Rattle.std.proofs.Common.{ℕ, sym, ap, ◌∙◌}
use borrow.Follows.Closed.{read_of}
use Rattle.std.specs.Option.{ghost_name_of}
use Rattle.judy_sl.specs.Children.{value_at}
use Rattle.judy_sl.proofs.lemmas.seats.PlaceKinds.{level-read, level-lent, level-back}
use Rattle.judy_sl.proofs.arena.Arena.slot.Goals as goal

pub returns-then-is_level : goal.returns-then-is_level
returns-then-is_level c =
    let arena = c.args.self.now in
    let at = c.in-Below.at in
    let is = sym c.is_level.ensures ∙ c.if-is_level.true in
    let words = c.words_mut.result.now in
    let there = c.words_mut.ensures.value in
    rw c.in-Below.is (
      λ t. read_of (ghost_name_of c.slot-then-is_level.result) (λ (value : ℕ). level-lent arena at is words there c.in-Below.piece value t) (level-back arena at words there t),
      record {
        writes_back = tt;
        value = c.slot-then-is_level.ensures.value ∙ ap (λ child. value_at child c.in-Below.piece) (sym (level-read arena at is words there));
      },
    )
