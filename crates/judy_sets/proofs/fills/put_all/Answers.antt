use Rattle.std.proofs.Common.{ℕ, get_or, ap, ◌∙◌}
use Rattle.judy_model.specs.Arrays.{with_map}
use Rattle.judy_word.specs.Held.{with_new}
use Rattle.judy_sets.proofs.FillFacts.{one_put}
use Rattle.judy_sets.proofs.fills.put_all.Goals as goal

pub pairs-preserved : goal.pairs-preserved
pairs-preserved g c =
    let pairs = c.args.pairs.now in
    let at = c.pairs.pair-index in
    let old = c.pairs.made in
    one_put g.V.Words.WORDS c.args.made.now old c.put.new.self pairs at c.pairs-test.true c.pairs.invariant
    (c.in_ok-put.ensures.put ∙ ap (λ (value : ℕ). with_map old (with_new old.map (get_or pairs at (0, 0)).0 value)) c.worth.ensures)
