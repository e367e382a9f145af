use Rattle.std.proofs.Common.{◌≡◌, ◌≤◌, ◌==◌, not, length, take}
use Rattle.std.specs.List.{list_all}
use Rattle.judy_sl.proofs.zeros.are_each.Given as goal

-- whether no byte so far is zero
abbrev pub invariant-loop-byte : goal.invariant-loop-byte
invariant-loop-byte l = record {
  within : l.byte-index ≤ length l.bytes;
  are : l.are ≡ list_all (λ byte. not (byte == 0)) (take l.byte-index l.bytes);
}
