use Rattle.std.proofs.Common.{◌≡◌, ◌*◌, ◌==◌, not, take}
use Rattle.std.specs.List.{list_all}
use Rattle.judy_sl.proofs.zeros.are_sixteens.Given as goal

-- whether no byte so far is zero
abbrev pub invariant-loop-i : goal.invariant-loop-i
invariant-loop-i l = l.are ≡ list_all (λ byte. not (byte == 0)) (take (16 * l.i) l.fn.bytes)
