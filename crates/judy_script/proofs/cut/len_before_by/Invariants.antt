use Rattle.std.proofs.Common.{◌≡◌, ◌+◌, true, length, take, drop}
use Rattle.judy_script.specs.Cuts.{is_without}
use Rattle.judy_script.proofs.cut.len_before_by.Given as goal

-- the bytes counted so far are without the byte, and the rest stands behind them
abbrev pub invariant-chunks : goal.invariant-chunks
invariant-chunks g l = record {
  counted : l.count + length l.rest ≡ length l.text;
  rest : l.rest ≡ drop l.count l.text;
  front : is_without l.byte (take l.count l.text) ≡ true;
}

abbrev pub decreases-chunks : goal.decreases-chunks
decreases-chunks g l = length l.rest
