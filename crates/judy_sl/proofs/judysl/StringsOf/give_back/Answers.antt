use Rattle.std.proofs.Common.{sym, ap, ◌∙◌, ℕ}
use Rattle.std.specs.FinMap.{FinMap}
use Rattle.judy_model.specs.Keys.{byte_order}
use Rattle.judy_sl.proofs.judysl.StringsOf.give_back.Goals as goal

pub returns-then-is_empty : goal.returns-then-is_empty
returns-then-is_empty g c =
    c.free_array.ensures.emptied
    ∙ ap (λ (map : FinMap byte_order ℕ). record { limit = c.args.self.now.limit; map = map }) (sym (c.is_empty.ensures.0 c.if-is_empty.true))
