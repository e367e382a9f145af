use Rattle.std.proofs.Common.{◌≡◌, ℕ, Option, None, Some, IfSome, ap, subst, sym, ◌∙◌, arith}
use Rattle.std.proofs.lemmas.Option.{same_Some}
use Rattle.std.specs.FinMap.{FinMap, get}
use Rattle.judy_model.specs.Keys.{word_order}
use Rattle.judy_sl.specs.World.{World, level}
use Rattle.judy_sl.specs.Arenas.{world_of}
use Rattle.judy_sl.specs.declared.arena.Place.{Place}
use Rattle.judy_sl.specs.Ways.{seat_in}
use Rattle.judy_sl.specs.Settled.{IsEntry, IsSettled}
use Rattle.judy_sl.proofs.lemmas.moves.Settled.{settled-start, settled-then, StandsIn, stands-entry, level-stays}
use Rattle.judy_sl.proofs.arena.Arena.settle_level.Goals.{then-piece-ne0, else-piece-ne0}
use Rattle.judy_sl.proofs.arena.Arena.settle_level.Goals as goal

-- What a call of a level's map found stands in the level.
found-in : (world : World) (seat : ℕ) (words map : FinMap word_order ℕ) → world seat ≡ level words → map ≡ words → (found : Option (ℕ × ℕ)) →
    IfSome found (λ entry. get map entry.0 ≡ Some entry.1) → (entry : ℕ × ℕ) → found ≡ Some entry → StandsIn world seat entry
found-in world seat words map is_level same None has entry e = absurd (cc)
found-in world seat words map is_level same (Some held) has entry e =
    let one = same_Some held entry e in (
      words,
      is_level,
      ap (λ (m : FinMap word_order ℕ). get m entry.0) (sym same) ∙ subst (λ (x : ℕ × ℕ). get map x.0 ≡ Some x.1) one has,
    )

pub entries-init : goal.entries-init
entries-init c = record {
  settled = settled-start c.args.self.now c.requires.kept;
  there = c.requires.there;
  next = found-in (world_of c.args.self.now) (seat_in c.args.child) c.entries_of-entries.result.now.map c.array.result.now.map c.entries_of-entries.ensures c.array.ensures.map
      c.first_entry-next.result c.first_entry-next.ensures.value;
}

pub settle-moved-requires-clause-entry : goal.settle-moved-requires-clause-entry
settle-moved-requires-clause-entry c =
    subst (λ (place : Place). IsEntry c.entries.self place c.in-Some.at) (sym c.place_in.ensures)
    (stands-entry c.entries.self c.args.child c.in-Some.piece c.in-Some.at (λ e. omega (arith, e, c.if-piece-ne0.true))
    (c.entries.invariant.next (c.in-Some.piece, c.in-Some.at) c.in-Some.is))

pub entries-preserved : goal.entries-preserved
entries-preserved c =
    let settled : IsSettled c.args.self.now c.if-piece-ne0.self = elim c.if-piece-ne0.branch [
      | then-piece-ne0 w ↦
          subst (IsSettled c.args.self.now) (sym w.self-is) (settled-then c.args.self.now c.entries.self w.settle-moved.new.self c.entries.invariant.settled w.settle-moved.ensures)
      | else-piece-ne0 w ↦ subst (IsSettled c.args.self.now) (sym w.self-is) c.entries.invariant.settled
    ] in record {
      settled = settled;
      there = level-stays c.args.self.now c.if-piece-ne0.self settled c.args.child c.requires.there;
      next = found-in (world_of c.if-piece-ne0.self) (seat_in c.args.child) c.entries_of.result.now.map c.array-in-entries.result.now.map c.entries_of.ensures
          c.array-in-entries.ensures.map c.next_entry-next.result c.next_entry-next.ensures.value;
    }
