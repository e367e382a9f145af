use Rattle.std.proofs.Common.{◌≡◌, true, false, sym, ◌∙◌, subst, arith}
use Rattle.judy_string_sets.specs.Walks.{Strings, IsTaken, passes, picked}
use Rattle.judy_string_sets.proofs.PartFacts.{taken_fewer}
use Rattle.judy_string_sets.proofs.WalkFacts.{picked_passed, picked_taken, picked_end}
use Rattle.judy_string_sets.proofs.keys.next_of.Goals as goal

pub returns-then-is_meant : goal.returns-then-is_meant
returns-then-is_meant g c =
    let which = c.args.which in
    let other = c.args.other.now.map in
    let key = c.next.new.self.key in
    let after = c.next.new.self.map in
    let meant : passes which other key ≡ true = sym c.is_meant.ensures ∙ c.if-is_meant.true in
    subst (λ (w : Strings). IsTaken w key c.in-Some.value (picked which after other)) c.keys.invariant
    (picked_taken which other c.keys.keys.map key c.in-Some.value after c.in-Some.ensures meant)

pub keys-smaller : goal.keys-smaller
keys-smaller g c = let fewer = taken_fewer c.keys.keys.map c.next.new.self.key c.in-Some.value c.next.new.self.map c.in-Some.ensures in omega (arith, fewer)

pub keys-preserved : goal.keys-preserved
keys-preserved g c =
    let which = c.args.which in
    let other = c.args.other.now.map in
    let key = c.next.new.self.key in
    let out : passes which other key ≡ false = sym c.is_meant.ensures ∙ c.if-is_meant.false in
    picked_passed which other c.keys.keys.map key c.in-Some.value c.next.new.self.map c.in-Some.ensures out ∙ c.keys.invariant

pub returns : goal.returns
returns g c = sym c.keys.invariant ∙ picked_end c.args.which c.keys.keys.map c.args.other.now.map c.in_default.ensures
