use Rattle.std.proofs.Common.{◌≡◌, ◌≤◌, true, length, take}
use Rattle.judy_script.specs.Cuts.{is_without}
use Rattle.judy_script.proofs.cut.short_len_before.Given as goal

-- the bytes so far are without the byte, and counted
abbrev pub invariant-loop-other : goal.invariant-loop-other
invariant-loop-other l = record {
  within : l.other-index ≤ length l.text;
  count : l.count ≡ l.other-index;
  front : is_without l.byte (take l.other-index l.text) ≡ true;
}
