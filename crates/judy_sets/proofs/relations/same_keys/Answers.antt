use Rattle.std.proofs.Common.{sym, ◌∙◌}
use Rattle.judy_sets.proofs.LookFacts.{same_by, same_long}
use Rattle.judy_sets.proofs.relations.same_keys.Goals as goal

pub returns-then-len : goal.returns-then-len
returns-then-len g c = (
  λ never. absurd cc,
  λ all. absurd (c.if-len.true (c.len.ensures.count ∙ same_long c.args.one.now.map c.args.other.now.map all ∙ sym c.len-2.ensures.count)),
)

pub returns : goal.returns
returns g c =
    same_by c.args.one.now.map c.args.other.now.map c.has_some.result (sym c.len.ensures.count ∙ c.if-len.false ∙ c.len-2.ensures.count) c.has_some.ensures
