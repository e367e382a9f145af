-- `sellumaq_judysl_remove_prefix`: what is done to the handle's array is done to the handle; a null handle has no key to take out.
use Rattle.std.proofs.Common.{◌≡◌, ◌∙◌, ap, subst, inl, Some}
use Rattle.std.specs.FinMap.{len}
use Rattle.judy_model.specs.Keys.{byte_order}
use Rattle.judy_model.specs.Arrays.{ArrayOf, with_map}
use Rattle.judy_model.specs.Prefixes.{beginning_with, without_prefix}
use Rattle.judy_c.specs.AsHeld.{as_strings}
use Rattle.judy_c.specs.StringMaps.{array_in, array_of}
use Rattle.judy_c.specs.StringRemovals.{IsRemoved}
use Rattle.judy_c.proofs.StringRanges.{removed_so, none_begins, none_of_prefix_taken}
use Rattle.judy_c.proofs.string_sets.sellumaq_judysl_remove_prefix.Goals as goal

pub returns-in-Some : goal.returns-in-Some
returns-in-Some c =
    let handle = c.args.handle.now in let after = c.remove_prefix.new.array in let done = c.remove_prefix.ensures in
    subst (λ (a : ArrayOf byte_order). IsRemoved (len (beginning_with a.map c.args.prefix.now)) (with_map a (without_prefix a.map c.args.prefix.now))
    (as_strings (record { at = handle.at; array = Some after }) ≡ handle) c.removed.result after)
    (ap array_of c.in-Some.ensures.value)
    (removed_so _ c.remove_prefix.result c.in-Some.array.now after _ _ c.removed.result done.count done.left done.stays
    (λ same. ap (λ a. as_strings (record { at = handle.at; array = Some a })) same ∙ c.in-Some.ensures.again) c.removed.ensures)

pub returns-in-None : goal.returns-in-None
returns-in-None c =
    let array = array_in c.args.handle.now in let null = c.in-None.ensures.null in
    inl (record { counted = none_begins array null c.args.prefix.now; left = none_of_prefix_taken array null c.args.prefix.now })
