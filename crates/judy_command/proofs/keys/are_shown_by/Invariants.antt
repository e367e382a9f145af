use Rattle.std.proofs.Common.{◌≡◌, ◌-◌, ◌≤◌, length, drop}
use Rattle.std.specs.List.{list_all}
use Rattle.judy_model.specs.KeyTokens.{is_shown}
use Rattle.judy_command.proofs.keys.are_shown_by.Given as goal

-- the rest stands at the end, and the bytes before it stand for themselves
abbrev pub invariant-chunks : goal.invariant-chunks
invariant-chunks g l = record {
  within : length l.rest ≤ length l.signs;
  rest : l.rest ≡ drop (length l.signs - length l.rest) l.signs;
  same : list_all is_shown l.rest ≡ list_all is_shown l.signs;
}

abbrev pub decreases-chunks : goal.decreases-chunks
decreases-chunks g l = length l.rest
