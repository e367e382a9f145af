-- `sellumaq_judysl_by_count`: what is told of the handle's array is what is said of the handle.
use Rattle.std.proofs.Common.{◌≡◌, ◌∙◌, refl, sym, ap, subst, Some, length}
use Rattle.std.specs.Option.{option_copied_mut}
use Rattle.judy_model.specs.Counts.{by_count}
use Rattle.judy_c.specs.Answers.{IsSaid}
use Rattle.judy_c.specs.KeyScans.{CallerBuffer, told_says}
use Rattle.judy_c.specs.StringMaps.{array_in, array_of}
use Rattle.judy_c.proofs.ScanFacts.{no_nth, nth_fits}
use Rattle.judy_c.proofs.string_counts.sellumaq_judysl_by_count.Goals as goal

pub returns-then-longest-buffer-clause-told : goal.returns-then-longest-buffer-clause-told
returns-then-longest-buffer-clause-told c =
    let before : CallerBuffer = record { buffer = c.args.buffer.now; count = c.args.count.now; value = c.args.value.now } in
    let after : CallerBuffer = record { buffer = c.tell_nth.new.buffer; count = c.tell_nth.new.count; value = c.tell_nth.new.value } in
    let held : Some c.in-Some.array.now ≡ c.args.handle.now.array = sym (ap option_copied_mut c.in-Some.is) ∙ c.array.ensures.value in
    subst (λ m. IsSaid (told_says m (by_count m c.args.n) before after) c.tell_nth.result) (ap (λ o. (array_of o).map) held) c.tell_nth.ensures

pub returns-else-longest-buffer-clause-told : goal.returns-else-longest-buffer-clause-told
returns-else-longest-buffer-clause-told c =
    let before : CallerBuffer = record { buffer = c.args.buffer.now; count = c.args.count.now; value = c.args.value.now } in
    let after : CallerBuffer = record { buffer = c.tell_nth_measured.new.buffer; count = c.tell_nth_measured.new.count; value = c.tell_nth_measured.new.value } in
    let held : Some c.in-Some.array.now ≡ c.args.handle.now.array = sym (ap option_copied_mut c.in-Some.is) ∙ c.array.ensures.value in
    subst (λ m. IsSaid (told_says m (by_count m c.args.n) before after) c.tell_nth_measured.result) (ap (λ o. (array_of o).map) held) c.tell_nth_measured.ensures

pub tell_nth-requires : goal.tell_nth-requires
tell_nth-requires c = nth_fits c.in-Some.array.now.map c.args.n c.longest.result c.longest.ensures.within (length c.args.buffer.now) c.if-longest-buffer.true

pub returns-in-None-clause-told : goal.returns-in-None-clause-told
returns-in-None-clause-told c = (no_nth (array_in c.args.handle.now).map c.args.n (ap (λ a. a.map) c.in-None.ensures.null), refl)
