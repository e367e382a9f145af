use Rattle.std.proofs.Common.{◌≡◌, ◌≤◌, length, take}
use Rattle.std.specs.List.{list_all}
use Rattle.judy_model.specs.KeyTokens.{is_shown}
use Rattle.judy_command.proofs.keys.few_are_shown.Given as goal

-- whether the bytes so far stand for themselves
abbrev pub invariant-loop-sign : goal.invariant-loop-sign
invariant-loop-sign l = record {
  within : l.sign-index ≤ length l.signs;
  are : l.are ≡ list_all is_shown (take l.sign-index l.signs);
}
