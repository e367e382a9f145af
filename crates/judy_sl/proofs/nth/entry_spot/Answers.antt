use Rattle.std.proofs.Common.{ℕ, ◌+◌, ◌∙◌, sym, ap, arith}
use Rattle.std.specs.FinMap.{FinMap, get}
use Rattle.judy_model.specs.Keys.{word_order}
use Rattle.judy_model.specs.Counts.{by_count}
use Rattle.judy_sl.proofs.lemmas.places.Nths.{place_some}
use Rattle.judy_sl.proofs.nth.entry_spot.Goals as goal

pub overflow_add-entry : goal.overflow_add-entry
overflow_add-entry c = let fits = c.requires.fits in omega arith

pub unreachable-requires : goal.unreachable-requires
unreachable-requires c =
    place_some c.args.level.now.map c.args.entry c.requires.within (ap (λ (words : FinMap word_order ℕ). by_count words (c.args.entry + 1)) (sym c.array.ensures.map) ∙ sym c.in_default.ensures.key)

pub returns-clause-at : goal.returns-clause-at
returns-clause-at c = ap (λ (words : FinMap word_order ℕ). by_count words (c.args.entry + 1)) (sym c.array.ensures.map) ∙ sym c.in-Some.ensures.key

pub returns-clause-held : goal.returns-clause-held
returns-clause-held c = ap (λ (words : FinMap word_order ℕ). get words c.in-Some.piece) (sym c.array.ensures.map) ∙ c.in-Some.ensures.value
