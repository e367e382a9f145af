use Rattle.std.proofs.Common.{ℕ, Bool, cond, sym, ap, ◌∙◌}
use Rattle.std.specs.FinMap.{empty, len, len-empty}
use Rattle.judy_model.specs.Keys.{byte_order}
use Rattle.judy_model.specs.TwoMaps.{difference}
use Rattle.judy_string_sets.proofs.counts.rest_count.Goals as goal

pub returns-else-rest : goal.returns-else-rest
returns-else-rest g c =
    sym (ap (λ (b : Bool). len (cond b (difference c.args.other.now.map c.args.one.now.map) empty)) c.if-rest.false ∙ len-empty byte_order ℕ)
