use Rattle.std.proofs.Common.{sym}
use Rattle.judy_sets.proofs.WordPuts.{changed_none}
use Rattle.judy_sets.proofs.range_words.change.Goals as goal

pub returns-then-from-to-clause-changed : goal.returns-then-from-to-clause-changed
returns-then-from-to-clause-changed c =
    λ t. record { limit = c.args.set.now.limit; map = sym (changed_none c.args.turned c.args.set.now.map c.args.from c.args.to c.if-from-to.true) t }
