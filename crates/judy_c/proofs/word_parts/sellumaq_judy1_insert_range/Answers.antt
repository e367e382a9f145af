use Rattle.std.proofs.Common.{ℕ, false, sym, ap, arith}
use Rattle.std.specs.FinMap.{FinMap}
use Rattle.judy_model.specs.Arrays.{with_map}
use Rattle.judy_model.specs.Keys.{word_order}
use Rattle.judy_model.specs.Ranges.{filled}
use Rattle.judy_sets.proofs.WordPuts.{changed_none}
use Rattle.judy_c.specs.Maps.{array_in_set, array_of, set_of}
use Rattle.judy_c.proofs.CombinedAnswers.{first_changed}
use Rattle.judy_c.proofs.WordHandles.{of_null}
use Rattle.judy_c.proofs.word_parts.sellumaq_judy1_insert_range.Goals as goal

pub returns-then-from-to-clause-changed : goal.returns-then-from-to-clause-changed
returns-then-from-to-clause-changed c =
    ap (with_map (array_in_set c.args.handle.now)) (sym (changed_none false (set_of c.args.handle.now) c.args.from c.args.to c.if-from-to.true))

pub returns-in-Ok-clause-changed : goal.returns-in-Ok-clause-changed
returns-in-Ok-clause-changed c =
    let made = c.insert_range-in-None.new.set in
    let count = c.len.ensures.count in
    let within = c.len.ensures.within in
    first_changed (array_in_set c.args.handle.now) _ made _ _ _
    (of_null (λ (map : FinMap word_order ℕ). filled map c.args.from c.args.to) c.unbounded-made.result (array_of c.args.handle.now.array)
    made c.unbounded-made.ensures c.in-None.ensures.null c.in-Ok.ensures.filled)
    (omega (arith, count, within)) c.hand.ensures
