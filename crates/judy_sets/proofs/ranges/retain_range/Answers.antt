use Rattle.std.proofs.Common.{◌≡◌, ℕ, ap, ◌∙◌, arith}
use Rattle.std.specs.FinMap.{FinMap}
use Rattle.judy_model.specs.Keys.{word_order}
use Rattle.judy_model.specs.Arrays.{with_map}
use Rattle.judy_model.specs.Ranges.{within, from_on}
use Rattle.judy_word.specs.WordArrays.{array_of}
use Rattle.judy_sets.proofs.RangeFacts.{count-within, within-most}
use Rattle.judy_sets.proofs.Retained.{both_sides}
use Rattle.judy_sets.proofs.ranges.retain_range.Goals as goal

pub overflow_sub-gone : goal.overflow_sub-gone
overflow_sub-gone g c =
    let stay = c.count-stay.ensures in
    let within = count-within c.args.from c.args.to c.args.array.now.map in
    let most = within-most c.args.from c.args.to c.args.array.now.map in
    let long = c.len.ensures.count in
    omega (arith, stay, within, most, long)

pub returns-clause-left : goal.returns-clause-left
returns-clause-left g c =
    let low : array_of c.remove_below.new.array ≡ with_map (array_of c.args.array.now) (from_on c.args.array.now.map c.args.from) = c.remove_below.ensures in
    c.remove_above.ensures
    ∙ (λ t. with_map (low t) (within (low t).map 0 c.args.to))
    ∙ ap (λ (map : FinMap word_order ℕ). with_map (array_of c.args.array.now) map) (both_sides c.args.array.now.map c.args.from c.args.to)
