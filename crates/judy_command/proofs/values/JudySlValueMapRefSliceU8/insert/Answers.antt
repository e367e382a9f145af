use Rattle.std.proofs.Common.{◌∙◌}
use Rattle.std.specs.Cmp.Lexicographic.{nat_list_cmp_total}
use Rattle.judy_command.proofs.NamedArrays.{slot_was}
use Rattle.judy_command.proofs.values.JudySlValueMapRefSliceU8.insert.Goals as goal

pub returns-clause-was : goal.returns-clause-was
returns-clause-was c = c.replace.ensures.value ∙ slot_was nat_list_cmp_total c.args.self.now.map c.args.key.now c.in_ok-slot.slot.now c.in_ok-slot.ensures.value
