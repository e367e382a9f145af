use Rattle.std.proofs.Common.{refl, sym, ◌∙◌}
use Rattle.judy_sl.proofs.lemmas.seats.PlaceKinds.{taken-level, taken-tail, level-stood, no-level-stood, level-vacated, tail-vacated}
use Rattle.judy_sl.proofs.arena.Arena.vacate.Goals as goal

pub remove-requires : goal.remove-requires
remove-requires c = taken-level c.args.self.now c.args.at (sym c.is_level.ensures ∙ c.if-is_level.true) c.requires.taken

pub returns-then-is_level : goal.returns-then-is_level
returns-then-is_level c =
    let is = sym c.is_level.ensures ∙ c.if-is_level.true in
    record {
      level = level-stood c.args.self.now c.args.at is c.remove.result c.remove.ensures.words;
      vacated = level-vacated c.args.self.now _ c.args.at refl is c.remove.ensures.removed refl;
    }

pub remove-requires-else-is_level : goal.remove-requires-else-is_level
remove-requires-else-is_level c = taken-tail c.args.self.now c.args.at (sym c.is_level.ensures ∙ c.if-is_level.false) c.requires.taken

pub returns-else-is_level : goal.returns-else-is_level
returns-else-is_level c =
    let is = sym c.is_level.ensures ∙ c.if-is_level.false in
    record {
      level = no-level-stood c.args.self.now c.args.at is;
      vacated = tail-vacated c.args.self.now _ c.args.at refl is c.remove-else-is_level.ensures refl;
    }
