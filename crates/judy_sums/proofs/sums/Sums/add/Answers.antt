use Rattle.std.proofs.Common.{Result, Ok, Err, OnOk, ap, sym, arith, ◌∙◌}
use Rattle.std.specs.declared.alloc.AllocError.{AllocError}
use Rattle.judy_sums.specs.Pairs.{sum_of}
use Rattle.judy_sums.proofs.SumsLemmas.{len_is, get_is, entries_is, insert_is}
use Rattle.judy_sums.proofs.sums.Sums.add.Goals as goal

pub add-requires-clause-new : goal.add-requires-clause-new
add-requires-clause-new c = sym (get_is c.self.inside.chunks c.args.self.now c.self.invariant c.self.view_is c.args.word) ∙ c.requires.absent

pub add-requires-clause-few : goal.add-requires-clause-few
add-requires-clause-few c =
    let long = len_is c.self.inside.chunks c.args.self.now c.self.invariant c.self.view_is in
    let few = c.requires.few in
    omega arith

pub add-requires-clause-fits : goal.add-requires-clause-fits
add-requires-clause-fits c =
    let sums = ap sum_of (entries_is c.self.inside.chunks c.args.self.now c.self.invariant c.self.view_is) in
    let fits = c.requires.fits in
    omega arith

on_ok : {P Q : Type 0} (result : Result (Unit {0}) AllocError) → (P → Q) → OnOk result P → OnOk result Q
on_ok (Ok value) more holds = more holds
on_ok (Err error) more holds = holds

pub returns-clause-added : goal.returns-clause-added
returns-clause-added c =
    on_ok c.add.result (insert_is c.self.inside.chunks c.args.self.now c.self.invariant c.self.view_is c.add.new.chunks c.args.word c.args.number) c.add.ensures.added
