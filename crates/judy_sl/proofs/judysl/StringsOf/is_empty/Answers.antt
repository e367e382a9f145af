use Rattle.std.proofs.Common.{◌∙◌, sym, ap, ℕ, eq-eqb}
use Rattle.std.proofs.lemmas.Bool.{eqb-true}
use Rattle.std.specs.FinMap.{FinMap, len, empty_of_len, len-empty}
use Rattle.judy_model.specs.Keys.{byte_order}
use Rattle.judy_sl.specs.Arenas.{map_of}
use Rattle.judy_sl.proofs.judysl.StringsOf.is_empty.Goals as goal

pub returns : goal.returns
returns g c =
    rw (← c.self.view_is) (
      λ none. empty_of_len (map_of c.self.inside.arena) (sym c.self.invariant.0.counted ∙ eqb-true c.self.inside.count 0 none),
      λ e. eq-eqb c.self.inside.count 0 (c.self.invariant.0.counted ∙ ap (λ (map : FinMap byte_order ℕ). len map) e ∙ len-empty byte_order ℕ),
    )
