use Rattle.std.proofs.Common.{sym, ◌∙◌}
use Rattle.judy_string_sets.proofs.CountFacts.{len-turned}
use Rattle.judy_string_sets.proofs.counts.common_count.Goals as goal

pub returns-else-len : goal.returns-else-len
returns-else-len g c = c.count_in-else-len.ensures ∙ sym (len-turned c.args.one.now.map c.args.other.now.map)
