use Rattle.std.proofs.Common.{ap, ℕ, ◌∙◌}
use Rattle.std.specs.FinMap.{FinMap, len}
use Rattle.judy_model.specs.Keys.{byte_order}
use Rattle.judy_model.specs.Arrays.{ArrayOf, empty_array}
use Rattle.judy_sl.proofs.lemmas.seats.Keeping.{strings-new}
use Rattle.judy_sl.proofs.lemmas.seats.Maps.{empty-map}
use Rattle.judy_sl.proofs.lemmas.counts.FirstWays.{firsts_new}
use Rattle.judy_sl.proofs.lemmas.counts.CountedWrites.{counted_new}
use Rattle.judy_sl.proofs.lemmas.counts.ListWrites.{no_lists}
use Rattle.judy_sl.proofs.judysl.StringsOf.free_array.Goals as goal

pub invariant_of-self : goal.invariant_of-self
invariant_of-self g c = (
  strings-new c.self.inside.limit c.new.result c.new.ensures.levels c.new.ensures.tails c.new.ensures.root c.self.invariant.0.holds_some c.self.invariant.0.limit_fits,
  counted_new c.new.result c.new.ensures.levels c.new.ensures.tails,
  firsts_new c.new.result c.new.ensures.levels c.new.ensures.tails c.new.ensures.root c.new-2.result c.new-2.ensures,
  no_lists _ c.new-3.result c.new-3.ensures,
)

pub returns-clause-emptied : goal.returns-clause-emptied
returns-clause-emptied g c =
    ap (λ (map : FinMap byte_order ℕ). record { limit = c.self.inside.limit; map = map }) (empty-map c.new.result c.new.ensures.levels c.new.ensures.tails c.new.ensures.root)
    ∙ ap (λ (strings : ArrayOf byte_order). empty_array strings.limit) c.self.view_is

pub returns-clause-freed : goal.returns-clause-freed
returns-clause-freed g c = c.self.invariant.0.counted ∙ ap (λ (strings : ArrayOf byte_order). len strings.map) c.self.view_is
