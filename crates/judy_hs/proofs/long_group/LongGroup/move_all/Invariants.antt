use Rattle.judy_hs.specs.Relaid.{IsRelaid}
use Rattle.judy_hs.proofs.long_group.LongGroup.move_all.Given as goal

-- the keys stand under the hashes that they had
abbrev pub invariant-loop : goal.invariant-loop
invariant-loop l = IsRelaid l.fn.self l.self
