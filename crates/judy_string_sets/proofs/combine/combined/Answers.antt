use Rattle.std.proofs.Common.{ap, ◌∙◌}
use Rattle.std.specs.FinMap.{len}
use Rattle.judy_model.specs.Arrays.{ArrayOf}
use Rattle.judy_model.specs.Keys.{byte_order}
use Rattle.judy_model.specs.TwoMaps.{union}
use Rattle.judy_string_sets.specs.Walks.{picked, rest_of, kept}
use Rattle.judy_string_sets.proofs.FillFacts.{with_nothing, not_more}
use Rattle.judy_string_sets.proofs.combine.combined.Goals as goal

pub returns-in-Ok : goal.returns-in-Ok
returns-in-Ok g c =
    let one = c.args.one.now.map in
    let other = c.args.other.now.map in
    let front = picked c.args.which one other in
    let rest = rest_of c.args.rest one other in
    record {
      limit = ap (λ (a : ArrayOf byte_order). a.limit) c.in-Ok.ensures ∙ ap (λ (a : ArrayOf byte_order). a.limit) c.new-made.ensures;
      map = ap (λ (a : ArrayOf byte_order). a.map) c.in-Ok.ensures ∙ ap (λ (a : ArrayOf byte_order). union front (union rest a.map)) c.new-made.ensures ∙ ap (union front) (with_nothing rest);
      within = not_more c.exceeds.result c.args.limit (len (kept c.args.which c.args.rest one other)) c.exceeds.ensures c.if-exceeds.false;
    }
