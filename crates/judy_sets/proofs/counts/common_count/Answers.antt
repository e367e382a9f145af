use Rattle.std.proofs.Common.{◌∙◌}
use Rattle.judy_sets.proofs.LookFacts.{common-turned}
use Rattle.judy_sets.proofs.counts.common_count.Goals as goal

pub returns-else-len : goal.returns-else-len
returns-else-len g c = c.count_common-else-len.ensures ∙ common-turned c.args.one.now.map c.args.other.now.map
