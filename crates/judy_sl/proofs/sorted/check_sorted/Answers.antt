use Rattle.std.proofs.Common.{◌≡◌, length, None, sym, ◌∙◌, arith}
use Rattle.std.proofs.lemmas.List.{length-map}
use Rattle.judy_sl.specs.Sorted.{strings_in, GoesOn, StaysBelow, IsNoKey}
use Rattle.judy_sl.proofs.lemmas.pieces.PieceLemmas.{text_of_key}
use Rattle.judy_sl.proofs.lemmas.made.SortedRuns.{run-more, run-to, run-all, string-at}
use Rattle.judy_sl.proofs.lemmas.pieces.Strings.{string_of_key}
use Rattle.judy_sl.proofs.sorted.check_sorted.Goals as goal

pub returns-then-not-is_key_of-clause-refused : goal.returns-then-not-is_key_of-clause-refused
returns-then-not-is_key_of-clause-refused g c = (
  run-to g.L.KeyLength.IsKey (IsNoKey g.L.KeyLength.IsKey) None (strings_in c.args.pairs.now) c.pairs.at _ _ c.pairs.invariant.run (string-at c.args.pairs.now c.pairs.at _ c.pairs-test.true)
      (λ is. let key = c.is_key_of.ensures.1 is in let none = c.if-not-is_key_of.true in cc),
  c.pairs.invariant.within,
)

pub returns-then-not-comes_after-clause-refused : goal.returns-then-not-comes_after-clause-refused
returns-then-not-comes_after-clause-refused g c = (
  run-to g.L.KeyLength.IsKey (StaysBelow g.L.KeyLength.IsKey) None (strings_in c.args.pairs.now) c.pairs.at _ _ c.pairs.invariant.run (string-at c.args.pairs.now c.pairs.at _ c.pairs-test.true)
      (c.is_key_of.ensures.0 c.if-not-is_key_of.false, sym c.comes_after.ensures ∙ c.if-not-comes_after.true),
  c.pairs.invariant.within,
)

pub returns-then-at-limit-clause-refused : goal.returns-then-at-limit-clause-refused
returns-then-at-limit-clause-refused g c = (
  run-to g.L.KeyLength.IsKey (GoesOn g.L.KeyLength.IsKey) None (strings_in c.args.pairs.now) c.pairs.at _ _ c.pairs.invariant.run (string-at c.args.pairs.now c.pairs.at _ c.pairs-test.true)
      (c.is_key_of.ensures.0 c.if-not-is_key_of.false, sym c.comes_after.ensures ∙ c.if-not-comes_after.false),
  (let over = c.if-at-limit.true in let within = c.pairs.invariant.within in omega arith),
)

pub pairs-preserved : goal.pairs-preserved
pairs-preserved g c = record {
  within = (let within = c.pairs.invariant.within in let other = c.if-at-limit.false in omega arith);
  text = text_of_key _ (string_of_key g.L.KeyLength _ (c.is_key_of.ensures.0 c.if-not-is_key_of.false));
  run = run-more g.L.KeyLength.IsKey None (strings_in c.args.pairs.now) c.pairs.at _ _ c.pairs.invariant.run (string-at c.args.pairs.now c.pairs.at _ c.pairs-test.true)
      (c.is_key_of.ensures.0 c.if-not-is_key_of.false, sym c.comes_after.ensures ∙ c.if-not-comes_after.false);
}

pub returns-clause-sorted : goal.returns-clause-sorted
returns-clause-sorted g c =
    let count : length (strings_in c.args.pairs.now) ≡ length c.args.pairs.now = length-map c.args.pairs.now _ in
    let all = c.pairs-test.false in
    let within = c.pairs.invariant.within in
    let end = c.pairs.auto.at-end in
    record {
      ascending = run-all g.L.KeyLength.IsKey None (strings_in c.args.pairs.now) c.pairs.at _ c.pairs.invariant.run (omega (arith, all, count));
      within = omega (arith, all, count, within, end);
    }

pub comes_after-requires-clause-key : goal.comes_after-requires-clause-key
comes_after-requires-clause-key g c = text_of_key _ (string_of_key g.L.KeyLength _ (c.is_key_of.ensures.0 c.if-not-is_key_of.false))
