-- `sellumaq_judysl_remove_range`: what is done to the handle's array is done to the handle; a null handle has no key to take out.
use Rattle.std.proofs.Common.{◌≡◌, ◌∙◌, ap, subst, inl, Some}
use Rattle.judy_model.specs.Keys.{byte_order}
use Rattle.judy_model.specs.Arrays.{ArrayOf, with_map}
use Rattle.judy_model.specs.Counts.{count}
use Rattle.judy_model.specs.Ranges.{outside}
use Rattle.judy_c.specs.AsHeld.{as_strings}
use Rattle.judy_c.specs.StringMaps.{array_in, array_of}
use Rattle.judy_c.specs.StringRemovals.{IsRemoved}
use Rattle.judy_c.proofs.StringRanges.{removed_so, none_counted, none_taken_out}
use Rattle.judy_c.proofs.string_sets.sellumaq_judysl_remove_range.Goals as goal

pub returns-in-Some-clause-removed : goal.returns-in-Some-clause-removed
returns-in-Some-clause-removed c = λ _ _.
    let handle = c.args.handle.now in let after = c.remove_range.new.array in let done = c.remove_range.ensures in
    subst (λ (a : ArrayOf byte_order). IsRemoved (count a.map c.args.from.now c.args.to.now) (with_map a (outside a.map c.args.from.now c.args.to.now))
    (as_strings (record { at = handle.at; array = Some after }) ≡ handle) c.removed.result after)
    (ap array_of c.in-Some.ensures.value)
    (removed_so _ c.remove_range.result c.in-Some.array.now after _ _ c.removed.result done.count done.left done.stays
    (λ same. ap (λ a. as_strings (record { at = handle.at; array = Some a })) same ∙ c.in-Some.ensures.again) c.removed.ensures)

pub returns-in-None-clause-removed : goal.returns-in-None-clause-removed
returns-in-None-clause-removed c = λ _ _.
    let array = array_in c.args.handle.now in let null = c.in-None.ensures.null in
    inl (record { counted = none_counted array null c.args.from.now c.args.to.now; left = none_taken_out array null c.args.from.now c.args.to.now })
