use Rattle.std.proofs.Common.{sym, ◌∙◌, arith}
use Rattle.judy_hs.specs.Kept.{map_of, array_of}
use Rattle.judy_hs.proofs.HsLemmas.{is_key_of, get_part, get_long, spot-some, IsHs-deleted, array-deleted, not_deleted, counts_one}
use Rattle.judy_hs.proofs.judyhs.JudyHs.remove.Goals as goal

pub returns-then-key-LONGEST-clause-answer : goal.returns-then-key-LONGEST-clause-answer
returns-then-key-LONGEST-clause-answer g c =
    rw (← c.self.view_is) (sym (get_long g.H.ByteHash.hash_of g.H.ByteHash.LONGEST c.self.inside.groups c.args.key.now (rw c.LONGEST.ensures at c.if-key-LONGEST.true)))

pub returns-then-key-LONGEST-clause-removed : goal.returns-then-key-LONGEST-clause-removed
returns-then-key-LONGEST-clause-removed g c =
    rw (← c.self.view_is) (not_deleted (array_of g.H.ByteHash.hash_of g.H.ByteHash.LONGEST c.self.inside.limit c.self.inside.groups) c.args.key.now
    (get_long g.H.ByteHash.hash_of g.H.ByteHash.LONGEST c.self.inside.groups c.args.key.now (rw c.LONGEST.ensures at c.if-key-LONGEST.true)))

pub returns-in_err-was-clause-answer : goal.returns-in_err-was-clause-answer
returns-in_err-was-clause-answer g c =
    let is_key = is_key_of g.H.ByteHash.LONGEST c.args.key.now (λ i. omega (arith, c.type_inv.key i)) (rw c.LONGEST.ensures at c.if-key-LONGEST.false) in
    let told = get_part g.H.ByteHash.hash_of g.H.ByteHash.LONGEST c.self.inside.groups c.args.key.now is_key c.part_of.result c.part_of.ensures ∙ sym c.take.ensures.answer in
    rw (← c.self.view_is) (c.from_residual.ensures ∙ sym (told ∙ c.in_err-was.was))

pub returns-in_err-was-clause-removed : goal.returns-in_err-was-clause-removed
returns-in_err-was-clause-removed g c =
    let is_key = is_key_of g.H.ByteHash.LONGEST c.args.key.now (λ i. omega (arith, c.type_inv.key i)) (rw c.LONGEST.ensures at c.if-key-LONGEST.false) in
    let told = get_part g.H.ByteHash.hash_of g.H.ByteHash.LONGEST c.self.inside.groups c.args.key.now is_key c.part_of.result c.part_of.ensures ∙ sym c.take.ensures.answer in
    rw (← c.self.view_is, c.take.ensures.absent c.in_err-was.was)
    (not_deleted (array_of g.H.ByteHash.hash_of g.H.ByteHash.LONGEST c.self.inside.limit c.self.inside.groups) c.args.key.now (told ∙ c.in_err-was.was))

pub overflow_sub-self : goal.overflow_sub-self
overflow_sub-self g c =
    let is_key = is_key_of g.H.ByteHash.LONGEST c.args.key.now (λ i. omega (arith, c.type_inv.key i)) (rw c.LONGEST.ensures at c.if-key-LONGEST.false) in
    let taken = rw c.part_of.ensures at c.in_ok-was.ensures.taken in
    let held = spot-some g.H.ByteHash.hash_of g.H.ByteHash.LONGEST c.self.inside.groups c.args.key.now is_key taken.place taken.inside taken.stood in
    counts_one (map_of g.H.ByteHash.hash_of g.H.ByteHash.LONGEST c.self.inside.groups) c.args.key.now held.0 c.self.inside.count held.1 c.self.invariant.counted

pub invariant_of-self-2 : goal.invariant_of-self-2
invariant_of-self-2 g c =
    let is_key = is_key_of g.H.ByteHash.LONGEST c.args.key.now (λ i. omega (arith, c.type_inv.key i)) (rw c.LONGEST.ensures at c.if-key-LONGEST.false) in
    let taken = rw c.part_of.ensures at c.in_ok-was.ensures.taken in
    IsHs-deleted g.H.ByteHash.hash_of g.H.ByteHash.LONGEST c.self.inside.limit c.self.inside.count c.self.inside.groups c.self.invariant c.args.key.now is_key
    taken.place taken.inside taken.stood c.take.new.self taken.kept taken.emptied

pub returns-clause-answer : goal.returns-clause-answer
returns-clause-answer g c =
    let is_key = is_key_of g.H.ByteHash.LONGEST c.args.key.now (λ i. omega (arith, c.type_inv.key i)) (rw c.LONGEST.ensures at c.if-key-LONGEST.false) in
    let told = get_part g.H.ByteHash.hash_of g.H.ByteHash.LONGEST c.self.inside.groups c.args.key.now is_key c.part_of.result c.part_of.ensures ∙ sym c.take.ensures.answer in
    rw (← c.self.view_is) (sym (told ∙ c.in_ok-was.was))

pub returns-clause-removed : goal.returns-clause-removed
returns-clause-removed g c =
    let is_key = is_key_of g.H.ByteHash.LONGEST c.args.key.now (λ i. omega (arith, c.type_inv.key i)) (rw c.LONGEST.ensures at c.if-key-LONGEST.false) in
    let taken = rw c.part_of.ensures at c.in_ok-was.ensures.taken in
    c.give_back.ensures
    ∙ rw (← c.self.view_is) (array-deleted g.H.ByteHash.hash_of g.H.ByteHash.LONGEST c.self.inside.limit c.self.inside.count c.self.inside.groups c.self.invariant c.args.key.now is_key
    taken.place taken.inside taken.stood c.take.new.self taken.kept taken.emptied)
