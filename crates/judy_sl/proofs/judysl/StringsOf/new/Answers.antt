use Rattle.std.proofs.Common.{ap, ℕ}
use Rattle.std.specs.FinMap.{FinMap}
use Rattle.judy_model.specs.Keys.{byte_order}
use Rattle.judy_sl.proofs.lemmas.seats.Keeping.{strings-new}
use Rattle.judy_sl.proofs.lemmas.seats.Maps.{empty-map}
use Rattle.judy_sl.proofs.lemmas.counts.FirstWays.{firsts_new}
use Rattle.judy_sl.proofs.lemmas.counts.CountedWrites.{counted_new}
use Rattle.judy_sl.proofs.lemmas.counts.ListWrites.{no_lists}
use Rattle.judy_sl.proofs.judysl.StringsOf.new.Goals as goal

pub invariant_of-result : goal.invariant_of-result
invariant_of-result g c = (
  strings-new c.args.limit c.new.result c.new.ensures.levels c.new.ensures.tails c.new.ensures.root c.requires.some c.requires.most,
  counted_new c.new.result c.new.ensures.levels c.new.ensures.tails,
  firsts_new c.new.result c.new.ensures.levels c.new.ensures.tails c.new.ensures.root c.new-2.result c.new-2.ensures,
  no_lists _ c.new-3.result c.new-3.ensures,
)

pub returns : goal.returns
returns g c = ap (λ (map : FinMap byte_order ℕ). record { limit = c.args.limit; map = map }) (empty-map c.new.result c.new.ensures.levels c.new.ensures.tails c.new.ensures.root)
