use Rattle.std.proofs.Common.{List, ℕ, Option, IfSome, sym, subst}
use Rattle.judy_sl.specs.Arenas.{world_of}
use Rattle.judy_sl.specs.Readers.{KeyLeft, IsStand}
use Rattle.judy_sl.specs.Strings.{IsString}
use Rattle.judy_sl.proofs.lemmas.readers.TextSteps.{string_left}
use Rattle.judy_sl.proofs.lemmas.readers.LevelSteps.{reader_string}
use Rattle.judy_sl.proofs.reader.KeyReader.next_piece.Goals as goal

pub invariant_of-self : goal.invariant_of-self
invariant_of-self c =
    let inside = c.self.inside in
    let is = c.self.invariant in
    let stands = subst (IsStand (world_of inside.arena.now)) c.in-InText.is is.stands in
    record {
      is_arena = is.is_arena;
      counted = is.counted;
      listed = is.listed;
      stands = subst (λ (left : Option (List ℕ)). IfSome left IsString) (sym c.next_piece.ensures.left) (string_left c.in-InText.text stands);
    }

pub returns-in-InLevel-clause-is_string : goal.returns-in-InLevel-clause-is_string
returns-in-InLevel-clause-is_string c =
    subst (λ (key : KeyLeft). IfSome key.left IsString) c.self.view_is (reader_string c.self.inside.arena.now c.self.inside.lists.now c.self.inside.stand c.self.invariant)
