use Rattle.std.proofs.Common.{ℕ, ◌≡◌, Some, ◌+◌, ◌∙◌, sym, ap, arith, Option, unwrap_or}
use Rattle.std.specs.FinMap.{FinMap, entries}
use Rattle.judy_model.specs.Keys.{word_order}
use Rattle.judy_model.specs.Counts.{by_count}
use Rattle.judy_sums.specs.Pairs.{sum_below}
use Rattle.judy_sl.specs.Nth.{before_entry}
use Rattle.judy_sl.proofs.lemmas.places.Nths.{place_some, place_at}
use Rattle.judy_sl.proofs.nth.before_entry.Goals as goal

pub unreachable-requires : goal.unreachable-requires
unreachable-requires c =
    place_some c.args.level.now.map c.args.place c.requires.within (ap (λ (words : FinMap word_order ℕ). by_count words (c.args.place + 1)) (sym c.array.ensures.map) ∙
    sym c.by_count.ensures ∙ c.in_default.is)

-- What the code adds up is what stands before the entry.
adds_up : (words firsts : FinMap word_order ℕ) (place piece below : ℕ) → by_count words (place + 1) ≡ Some piece → below ≡ sum_below (entries firsts) piece →
    place + below ≡ before_entry words firsts place
adds_up words firsts place piece below at is = ap (λ n. place + n) (is ∙ ap (λ (found : Option ℕ). sum_below (entries firsts) (unwrap_or found 0)) (sym (place_at words place piece at)))

pub overflow_add-result : goal.overflow_add-result
overflow_add-result c =
    let sum = adds_up c.args.level.now.map c.args.firsts.now c.args.place c.in-Some.piece c.below.result
    (ap (λ (words : FinMap word_order ℕ). by_count words (c.args.place + 1)) (sym c.array.ensures.map) ∙ sym c.by_count.ensures ∙ c.in-Some.is) c.below.ensures in
    let fits = c.requires.fits in
    omega arith

pub returns : goal.returns
returns c =
    adds_up c.args.level.now.map c.args.firsts.now c.args.place c.in-Some.piece c.below.result (ap (λ (words : FinMap word_order ℕ). by_count words (c.args.place + 1))
    (sym c.array.ensures.map) ∙ sym c.by_count.ensures ∙ c.in-Some.is) c.below.ensures
