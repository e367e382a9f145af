use Rattle.std.proofs.Common.{ℕ, Option, IsSome, Result, Ok, Err, OnOk, OnErr, ap, subst, arith, ◌∙◌}
use Rattle.std.specs.declared.alloc.AllocError.{AllocError}
use Rattle.std.specs.FinMap.{from_sorted}
use Rattle.judy_sums.specs.Pairs.{sum_of}
use Rattle.judy_sums.proofs.SumsLemmas.{len_is, get_is, entries_is, raised_is}
use Rattle.judy_sums.proofs.sums.Sums.raise.Goals as goal

pub raise-requires-clause-few : goal.raise-requires-clause-few
raise-requires-clause-few c =
    let long = len_is c.self.inside.chunks c.args.self.now c.self.invariant c.self.view_is in
    let few = c.requires.few in
    omega arith

pub raise-requires-clause-fits : goal.raise-requires-clause-fits
raise-requires-clause-fits c =
    let sums = ap sum_of (entries_is c.self.inside.chunks c.args.self.now c.self.invariant c.self.view_is) in
    let fits = c.requires.fits in
    omega arith

on_ok : {P Q : Type 0} (result : Result (Unit {0}) AllocError) → (P → Q) → OnOk result P → OnOk result Q
on_ok (Ok value) more holds = more holds
on_ok (Err error) more holds = holds

on_err : {P Q : Type 0} (result : Result (Unit {0}) AllocError) → (P → Q) → OnErr result P → OnErr result Q
on_err (Ok value) more holds = holds
on_err (Err error) more holds = more holds

pub returns-clause-raised : goal.returns-clause-raised
returns-clause-raised c = on_ok c.raise.result (raised_is c.self.inside.chunks c.args.self.now c.self.invariant c.self.view_is c.raise.new.chunks c.args.word) c.raise.ensures.raised

pub returns-clause-unchanged : goal.returns-clause-unchanged
returns-clause-unchanged c = on_err c.raise.result (λ e. ap from_sorted e ∙ c.self.view_is) c.raise.ensures.unchanged

pub returns-clause-there : goal.returns-clause-there
returns-clause-there c = λ found. c.raise.ensures.there
    (subst (λ (known : Option ℕ). IsSome known) (get_is c.self.inside.chunks c.args.self.now c.self.invariant c.self.view_is c.args.word) found)
