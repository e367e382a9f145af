use Rattle.std.proofs.Common.{◌≡◌, ◌≤◌, ◌<◌, length, sym, refl, ap, ◌∙◌, subst, arith}
use Rattle.std.specs.List.{remove}
use Rattle.std.proofs.lemmas.Option.{slice_get_within}
use Rattle.std.proofs.lemmas.List.{length-set}
use Rattle.judy_node.specs.Trees.{Tree, IsChild}
use Rattle.judy_node.specs.Branches.{IsWholeBranch, tree_below}
use Rattle.judy_node.specs.Kinds.{tree_of, IsLevel}
use Rattle.judy_change.specs.Removals.{IsGone, width_of}
use Rattle.judy_node.proofs.Maps.{children-length}
use Rattle.judy_change.proofs.BelowFacts.{step-absent, inside, kid_child, below_fewer, below_same, below_absent, below_only, below_some, below_some-only, below_gone, below_dropped}
use Rattle.judy_change.proofs.BelowFacts.{branch_gone, branch_wide, two_left, same_tree}
use Rattle.judy_node.proofs.Shaped.{branch-child}
use Rattle.judy_change.proofs.removals.+remove.Goals as goal

pub remove_below-returns-in_default-clause-taken : goal.remove_below-returns-in_default-clause-taken
remove_below-returns-in_default-clause-taken g t c =
    (step-absent g.V.Words.WORDS c.args.key c.args.branch.now c.step.result c.requires.branch c.step.ensures c.in_default.not-Child, record { branch = c.requires.branch; tree = refl })

pub remove_below-index_mut-requires : goal.remove_below-index_mut-requires
remove_below-index_mut-requires g t c =
    let branch = c.args.branch.now in
    let within = slice_get_within branch.bytes c.in-Child.place c.in-Child.byte c.in-Child.ensures.1 in
    let long = children-length g.V.Words.WORDS branch.width 0 branch.bytes branch.children.items c.requires.branch.parts.children in
    let held = branch.children.ok.0 in
    omega arith

pub remove_below-remove_in-requires : goal.remove_below-remove_in-requires
remove_below-remove_in-requires g t c κs within =
    let falls = c.decreases in
    let within_width = c.requires.branch.parts.within in (
      omega arith,
      (
        within,
        (
          omega arith,
          (
            c.requires.one,
            (
              kid_child g.V.Words.WORDS c.args.key c.in-Child.byte c.in-Child.place c.in-Child.rest c.args.branch.now c.index_mut.result.now c.requires.branch
                  c.in-Child.ensures.0 c.in-Child.ensures.1 c.index_mut.ensures.value,
              λ wide. let never : ⊥ = omega arith in absurd never,
            ),
          ),
        ),
      ),
    )

pub remove_below-returns-then-branch-eq1-clause-taken : goal.remove_below-returns-then-branch-eq1-clause-taken
remove_below-returns-then-branch-eq1-clause-taken g t c = (
  below_only g.V.Words.WORDS c.args.key c.in-Child.byte c.in-Child.place c.in-Child.rest c.args.branch.now c.index_mut.result.now c.requires.branch c.in-Child.ensures.0
      c.in-Child.ensures.1 c.index_mut.ensures.value c.in-Only.value c.in-Only.ensures.0 c.if-branch-eq1.true,
  same_tree g.V.Words.WORDS c.args.branch.now c.in-Child.place c.remove_in.new.child c.requires.branch
      (below_same g.V.Words.WORDS c.args.key c.in-Child.byte c.in-Child.place c.in-Child.rest c.args.branch.now c.index_mut.result.now c.requires.branch
      c.in-Child.ensures.0 c.in-Child.ensures.1 c.index_mut.ensures.value c.remove_in.new.child c.in-Only.ensures.1),
)

pub remove_below-lose_child-requires-clause-place : goal.remove_below-lose_child-requires-clause-place
remove_below-lose_child-requires-clause-place g t c =
    let within = inside g.V.Words.WORDS c.args.key c.in-Child.byte c.in-Child.place c.in-Child.rest c.args.branch.now c.index_mut.result.now c.requires.branch
    c.in-Child.ensures.0 c.in-Child.ensures.1 c.index_mut.ensures.value in
    let long = length-set c.args.branch.now.children.items c.in-Child.place c.remove_in.new.child in
    omega arith

pub remove_below-lose_child-requires-clause-some : goal.remove_below-lose_child-requires-clause-some
remove_below-lose_child-requires-clause-some g t c =
    below_some-only g.V.Words.WORDS c.args.key c.in-Child.byte c.in-Child.place c.in-Child.rest c.args.branch.now c.index_mut.result.now c.requires.branch
    c.in-Child.ensures.0 c.in-Child.ensures.1 c.index_mut.ensures.value c.in-Only.value c.in-Only.ensures.0

pub remove_below-overflow_sub-branch : goal.remove_below-overflow_sub-branch
remove_below-overflow_sub-branch g t c =
    below_some g.V.Words.WORDS c.args.key c.in-Child.byte c.in-Child.place c.in-Child.rest c.args.branch.now c.index_mut.result.now c.requires.branch c.in-Child.ensures.0
    c.in-Child.ensures.1 c.index_mut.ensures.value c.in-Gone.value c.in-Gone.ensures.found

pub remove_below-returns-in-Absent-clause-taken : goal.remove_below-returns-in-Absent-clause-taken
remove_below-returns-in-Absent-clause-taken g t c = (
  below_absent g.V.Words.WORDS c.args.key c.in-Child.byte c.in-Child.place c.in-Child.rest c.args.branch.now c.index_mut.result.now c.requires.branch c.in-Child.ensures.0
      c.in-Child.ensures.1 c.index_mut.ensures.value c.in-Absent.ensures.0,
  same_tree g.V.Words.WORDS c.args.branch.now c.in-Child.place c.remove_in.new.child c.requires.branch
      (below_same g.V.Words.WORDS c.args.key c.in-Child.byte c.in-Child.place c.in-Child.rest c.args.branch.now c.index_mut.result.now c.requires.branch
      c.in-Child.ensures.0 c.in-Child.ensures.1 c.index_mut.ensures.value c.remove_in.new.child c.in-Absent.ensures.1),
)

pub remove_below-returns-else-branch-eq1-clause-taken : goal.remove_below-returns-else-branch-eq1-clause-taken
remove_below-returns-else-branch-eq1-clause-taken g t c =
    below_dropped g.V.Words.WORDS c.args.key c.in-Child.byte c.in-Child.place c.in-Child.rest c.args.branch.now c.index_mut.result.now c.requires.branch
    c.in-Child.ensures.0 c.in-Child.ensures.1 c.index_mut.ensures.value c.lose_child.new.branch c.in-Only.value c.in-Only.ensures.0 c.if-branch-eq1.false
    c.lose_child.ensures.width c.lose_child.ensures.skip c.lose_child.ensures.bytes
    (c.lose_child.ensures.children ∙ ap (λ ks. remove ks c.in-Child.place) (below_same g.V.Words.WORDS c.args.key c.in-Child.byte c.in-Child.place c.in-Child.rest c.args.branch.now
    c.index_mut.result.now c.requires.branch c.in-Child.ensures.0 c.in-Child.ensures.1 c.index_mut.ensures.value c.remove_in.new.child c.in-Only.ensures.1)) c.lose_child.ensures.population

pub remove_below-returns-in-Gone-clause-taken : goal.remove_below-returns-in-Gone-clause-taken
remove_below-returns-in-Gone-clause-taken g t c =
    let some = below_some g.V.Words.WORDS c.args.key c.in-Child.byte c.in-Child.place c.in-Child.rest c.args.branch.now c.index_mut.result.now c.requires.branch
    c.in-Child.ensures.0 c.in-Child.ensures.1 c.index_mut.ensures.value c.in-Gone.value c.in-Gone.ensures.found in
    below_gone g.V.Words.WORDS c.args.key c.in-Child.byte c.in-Child.place c.in-Child.rest c.args.branch.now c.index_mut.result.now c.requires.branch c.in-Child.ensures.0
    c.in-Child.ensures.1 c.index_mut.ensures.value _ c.remove_in.new.child c.in-Gone.value c.in-Gone.shrunk c.in-Gone.ensures refl refl refl refl (omega arith)

pub remove_kind-settle-settled-requires-clause-child : goal.remove_kind-settle-settled-requires-clause-child
remove_kind-settle-settled-requires-clause-child g t c =
    let words = g.V.Words.WORDS in
    let n = c.remove_below.new.branch in
    let child = subst (λ kind. IsChild words c.args.width (tree_of words kind)) c.in-Branch.is c.requires.child in
    let wide = c.in-Gone.ensures.taken.width ∙ ap width_of c.deref_mut.ensures.value ∙ branch_wide words c.args.width c.in-Branch.branch.value child in
    subst (λ w. IsChild words w (tree_below n)) wide (branch-child words n.width n.skip n.bytes n.children.items n.population c.in-Gone.ensures.taken.branch)

pub remove_kind-settle-settled-requires-clause-two : goal.remove_kind-settle-settled-requires-clause-two
remove_kind-settle-settled-requires-clause-two g t c =
    λ wide.
    let words = g.V.Words.WORDS in
    let level = (subst (IsLevel words) c.in-Branch.is c.requires.level).0 in
    let three = subst (λ kind. c.args.width ≡ 8 → 3 ≤ length (tree_of words kind).pairs) c.in-Branch.is c.requires.three wide in
    let left = two_left words c.args.key c.deref_mut.result.now c.remove_below.new.branch c.in-Gone.value c.in-Gone.shrunk
    (subst (IsWholeBranch words) (sym c.deref_mut.ensures.value) level) c.in-Gone.ensures.taken in
    let same = ap (λ b. b.population) c.deref_mut.ensures.value in
    let were = level.parts.counted in
    let are = c.in-Gone.ensures.taken.branch.parts.counted in
    omega arith

pub remove_kind-returns-in-Gone-clause-taken : goal.remove_kind-returns-in-Gone-clause-taken
remove_kind-returns-in-Gone-clause-taken g t c =
    let words = g.V.Words.WORDS in
    let level = (subst (IsLevel words) c.in-Branch.is c.requires.level).0 in
    let child = subst (λ kind. IsChild words c.args.width (tree_of words kind)) c.in-Branch.is c.requires.child in
    let new = tree_of words c.settle-settled.new.kind in
    subst (λ kind. IsGone words c.args.width c.args.key (tree_of words kind) new c.in-Gone.value c.both.result) (sym c.in-Branch.is)
    (subst (λ b. IsGone words c.args.width c.args.key (tree_below b) new c.in-Gone.value c.both.result) c.deref_mut.ensures.value
    (branch_gone words c.args.width c.args.key c.deref_mut.result.now c.remove_below.new.branch c.in-Gone.value c.in-Gone.shrunk c.settle-settled.result c.both.result new
    (subst (IsWholeBranch words) (sym c.deref_mut.ensures.value) level) (ap width_of c.deref_mut.ensures.value ∙ branch_wide words c.args.width c.in-Branch.branch.value child)
    c.in-Gone.ensures.taken c.settle-settled.ensures.settled c.both.ensures))

pub remove_below-take-requires : goal.remove_below-take-requires
remove_below-take-requires g t c =
    let words = g.V.Words.WORDS in
    let b = c.args.branch.now in
    let kid = c.index_mut.result.now in
    let child = kid_child words c.args.key c.in-Child.byte c.in-Child.place c.in-Child.rest b kid c.requires.branch c.in-Child.ensures.0 c.in-Child.ensures.1 c.index_mut.ensures.value in (
      b.children.items,
      kid,
      c.requires.sums,
      inside words c.args.key c.in-Child.byte c.in-Child.place c.in-Child.rest b kid c.requires.branch c.in-Child.ensures.0 c.in-Child.ensures.1 c.index_mut.ensures.value,
      subst (λ (k : Tree). 0 < length k.pairs) c.index_mut.ensures.value child.some,
    )

pub remove_below-returns-in-Gone-clause-sums : goal.remove_below-returns-in-Gone-clause-sums
remove_below-returns-in-Gone-clause-sums g t c =
    let words = g.V.Words.WORDS in
    let b = c.args.branch.now in
    let kid = c.index_mut.result.now in
    c.take.ensures b.children.items c.remove_in.new.child c.requires.sums
    (inside words c.args.key c.in-Child.byte c.in-Child.place c.in-Child.rest b kid c.requires.branch c.in-Child.ensures.0 c.in-Child.ensures.1 c.index_mut.ensures.value)
    (below_fewer words c.args.key c.in-Child.byte c.in-Child.place c.in-Child.rest b kid c.requires.branch c.in-Child.ensures.0 c.in-Child.ensures.1
    c.index_mut.ensures.value c.remove_in.new.child c.in-Gone.value c.in-Gone.shrunk c.in-Gone.ensures c.remove_in.new.child)
