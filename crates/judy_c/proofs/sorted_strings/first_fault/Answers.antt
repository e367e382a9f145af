-- `first_fault`: the strings before the one that is read are keys that ascend.
use Rattle.std.proofs.Common.{None, sym, ◌∙◌, arith}
use Rattle.judy_sl.specs.Strings.{IsString}
use Rattle.judy_sl.specs.Sorted.{GoesOn, StaysBelow, IsNoKey}
use Rattle.judy_sl.proofs.lemmas.made.SortedRuns.{run-more, run-to, run-all}
use Rattle.judy_c.specs.SortedStrings.{strings_on}
use Rattle.judy_c.proofs.PageFaults.{length-strings_on, string_here, strings_left, whole_left}
use Rattle.judy_c.proofs.sorted_strings.first_fault.Goals as goal

pub returns-then-not-is_key : goal.returns-then-not-is_key
returns-then-not-is_key c = (
  run-to IsString (IsNoKey IsString) None (strings_on c.args.bytes.now c.args.entries.now) c.entries.at _ _ c.entries.invariant.run
      (string_here c.args.bytes.now c.args.entries.now c.entries.rest.now c.entries.at _ c.entries-test.true c.entries.invariant.left _ c.split_at.ensures.front)
      (λ is. let key = c.is_key.ensures.1 is in let none = c.if-not-is_key.true in cc),
  c.entries.invariant.within,
)

pub returns-then-not-comes_after : goal.returns-then-not-comes_after
returns-then-not-comes_after c = (
  run-to IsString (StaysBelow IsString) None (strings_on c.args.bytes.now c.args.entries.now) c.entries.at _ _ c.entries.invariant.run
      (string_here c.args.bytes.now c.args.entries.now c.entries.rest.now c.entries.at _ c.entries-test.true c.entries.invariant.left _ c.split_at.ensures.front)
      (c.is_key.ensures.0 c.if-not-is_key.false, sym c.comes_after.ensures ∙ c.if-not-comes_after.true),
  c.entries.invariant.within,
)

pub returns-then-at-eq-MOST_KEYS : goal.returns-then-at-eq-MOST_KEYS
returns-then-at-eq-MOST_KEYS c = (
  run-to IsString (GoesOn IsString) None (strings_on c.args.bytes.now c.args.entries.now) c.entries.at _ _ c.entries.invariant.run
      (string_here c.args.bytes.now c.args.entries.now c.entries.rest.now c.entries.at _ c.entries-test.true c.entries.invariant.left _ c.split_at.ensures.front)
      (c.is_key.ensures.0 c.if-not-is_key.false, sym c.comes_after.ensures ∙ c.if-not-comes_after.false),
  (let over = c.if-at-eq-MOST_KEYS.true in omega arith),
)

pub entries-preserved : goal.entries-preserved
entries-preserved c =
    let there = string_here c.args.bytes.now c.args.entries.now c.entries.rest.now c.entries.at _ c.entries-test.true c.entries.invariant.left _ c.split_at.ensures.front in record {
      within = (let within = c.entries.invariant.within in let other = c.if-at-eq-MOST_KEYS.false in omega arith);
      run =
          run-more IsString None (strings_on c.args.bytes.now c.args.entries.now) c.entries.at _ _ c.entries.invariant.run there
          (c.is_key.ensures.0 c.if-not-is_key.false, sym c.comes_after.ensures ∙ c.if-not-comes_after.false);
      left = strings_left c.args.bytes.now c.args.entries.now c.entries.rest.now c.entries.at _ c.entries-test.true c.entries.invariant.left _ c.split_at.ensures.back;
      whole = whole_left c.args.bytes.now c.args.entries.now c.entries.rest.now c.entries.at _ c.entries-test.true _ c.split_at.ensures.back c.entries.invariant.whole;
    }

pub returns : goal.returns
returns c =
    let count = length-strings_on c.args.bytes.now c.args.entries.now in let all = c.entries-test.false in let within = c.entries.invariant.within in let end = c.entries.auto.at-end in
    record {
      ascending = run-all IsString None (strings_on c.args.bytes.now c.args.entries.now) c.entries.at _ c.entries.invariant.run (omega (arith, all, count));
      within = omega (arith, all, count, within, end);
    }
