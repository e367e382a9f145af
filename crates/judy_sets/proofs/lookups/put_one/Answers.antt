use Rattle.std.proofs.Common.{ℕ, ap, ◌∙◌}
use Rattle.judy_model.specs.Arrays.{with_map}
use Rattle.judy_word.specs.Held.{with_new}
use Rattle.judy_sets.proofs.LookFacts.{one_found}
use Rattle.judy_sets.proofs.lookups.put_one.Goals as goal

pub returns : goal.returns
returns g c =
    one_found g.V.Words.WORDS c.args.theirs c.args.many.now.map c.args.made.now c.put.new.self c.args.pair c.in-Some.value c.chosen-kept.result c.in-Some.ensures c.chosen-kept.ensures
    (c.in_ok-put.ensures.put ∙ ap (λ (value : ℕ). with_map c.args.made.now (with_new c.args.made.now.map c.args.pair.0 value)) c.worth.ensures)
