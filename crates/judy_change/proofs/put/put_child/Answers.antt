use Rattle.std.proofs.Common.{◌≢◌, ℕ, ◌+◌, ◌*◌, ◌^◌, ◌<◌, List, length, Option, Some, None, IfSome, sym, subst, arith}
use Rattle.judy_model.specs.WordBytes.{number_of}
use Rattle.judy_node.specs.Trees.{Tree, IsBranch, branch_tree}
use Rattle.judy_node.specs.Populations.{AreGroups, AreSums}
use Rattle.judy_node.specs.declared.sums.Sums.{Sums}
use Rattle.judy_node.proofs.Maps.{children-length, children-few}
use Rattle.judy_change.specs.Inserted.{IsAdded}
use Rattle.judy_change.proofs.BranchInserts.{gap_absent}
use Rattle.judy_change.proofs.put.put_child.Goals as goal

pub returns-then-is_err-clause-inserted : goal.returns-then-is_err-clause-inserted
returns-then-is_err-clause-inserted g c =
    let b = c.args.branch.now in
    let small : c.args.byte < 256 = omega (arith, c.ranges.byte) in (
      gap_absent g.V.Words.WORDS b.width b.skip b.bytes b.children.items b.population c.requires.level c.args.byte c.args.pair.key c.requires.fits small c.requires.absent,
      λ t. branch_tree b.width b.skip b.bytes (c.make_room.ensures.items t) b.population,
    )

pub returns-then-is_err-clause-level : goal.returns-then-is_err-clause-level
returns-then-is_err-clause-level g c =
    let b = c.args.branch.now in
    subst (λ ks. IsBranch g.V.Words.WORDS b.width b.skip b.bytes ks b.population) (sym c.make_room.ensures.items) c.requires.level

pub put_key-requires-clause-level : goal.put_key-requires-clause-level
put_key-requires-clause-level g c =
    let b = c.args.branch.now in
    subst (λ ks. IsBranch g.V.Words.WORDS b.width b.skip b.bytes ks b.population) (sym c.make_room.ensures.items) c.requires.level

pub returns-then-len-eq256-clause-inserted : goal.returns-then-len-eq256-clause-inserted
returns-then-len-eq256-clause-inserted g c =
    let b = c.args.branch.now in
    let n = c.put_key.new.branch in
    subst (λ ks. IsAdded ((number_of b.skip * 256 + c.args.byte) * 256 ^ b.width + c.args.pair.key) c.args.pair.value (branch_tree b.width b.skip b.bytes ks b.population)
    (branch_tree n.width n.skip n.bytes n.children.items n.population))
    c.make_room.ensures.items c.put_key.ensures.added

pub returns-else-len-eq256-clause-inserted : goal.returns-else-len-eq256-clause-inserted
returns-else-len-eq256-clause-inserted g c =
    let b = c.args.branch.now in
    let n = c.put_key.new.branch in
    subst (λ ks. IsAdded ((number_of b.skip * 256 + c.args.byte) * 256 ^ b.width + c.args.pair.key) c.args.pair.value (branch_tree b.width b.skip b.bytes ks b.population)
    (branch_tree n.width n.skip n.bytes n.children.items n.population))
    c.make_room.ensures.items c.put_key.ensures.added

-- Fewer than all 256 children have no sums, so there are none of any others.
no_sums : (sums : Sums) (old new : List Tree) → AreSums sums old → length old ≢ 256 → AreSums sums new
no_sums sums old new are apart = from (λ groups. groups.value) sums.groups are
  where
    from : {A : Type 0} (read : A → List ℕ) (groups : Option A) → IfSome groups (λ it. AreGroups (read it) old) → IfSome groups (λ it. AreGroups (read it) new)
    from read None all = tt
    from read (Some it) all = absurd (apart all.all)

pub returns-else-len-eq256-clause-sums : goal.returns-else-len-eq256-clause-sums
returns-else-len-eq256-clause-sums g c =
    let words = g.V.Words.WORDS in
    let b = c.args.branch.now in
    let n = c.put_key.new.branch in
    let put = c.put_key.ensures in
    let old = children-length words b.width 0 b.bytes b.children.items c.requires.level.parts.children in
    let few = children-few words n.width 0 n.bytes n.children.items (omega arith) put.level.parts.children in
    let wider = put.wider in
    let most : length b.children.items ≢ 256 = λ all. let never : ⊥ = omega arith in absurd never in
    subst (λ sums. AreSums sums n.children.items) (sym put.sums) (no_sums b.sums b.children.items n.children.items c.requires.sums most)
