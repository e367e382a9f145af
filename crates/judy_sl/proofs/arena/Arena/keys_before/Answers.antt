use Rattle.std.proofs.Common.{◌≡◌, ℕ, Option, None, Some, is_some, true, refl, sym, ◌∙◌}
use Rattle.std.specs.FinMap.{entries, entries_sorted, get-entries, len-entries}
use Rattle.judy_sums.specs.Levels.{part_len}
use Rattle.judy_sl.specs.Arenas.{world_of}
use Rattle.judy_sl.specs.Behind.{entry_keys}
use Rattle.judy_sl.proofs.lemmas.counts.CountWays.{none_before, from_none}
use Rattle.judy_sl.proofs.arena.Arena.keys_before.Goals as goal

-- What is there is some value.
some_value : (found : Option ℕ) → is_some found ≡ true → (value : ℕ) × (found ≡ Some value)
some_value None is = cc
some_value (Some value) is = (value, refl)

pub returns-then-is_some : goal.returns-then-is_some
returns-then-is_some c =
    let words = c.args.level.now.map in
    let held = some_value c.args.found (sym c.is_some.ensures ∙ c.if-is_some.true) in
    sym (none_before (part_len (entry_keys (world_of c.args.self.now))) c.args.piece held.0 (entries words) (entries_sorted words)
    (sym (len-entries words) ∙ sym c.len.ensures.count ∙ c.if-len-eq1.true) (sym (get-entries words c.args.piece) ∙ sym c.requires.found ∙ held.1))

pub returns : goal.returns
returns c = from_none (world_of c.args.self.now) c.args.level.now.map c.keys_counted.result c.args.piece c.keys_counted.ensures
