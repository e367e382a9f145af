use Rattle.std.proofs.Common.{◌≡◌, ◌≤◌, length, sym, refl, ap, ◌∙◌, subst, arith}
use Rattle.std.specs.List.{remove}
use Rattle.std.proofs.lemmas.Option.{slice_get_within}
use Rattle.std.proofs.lemmas.List.{length-set, get_or_default}
use Rattle.judy_node.specs.Trees.{Tree, IsChild}
use Rattle.judy_node.specs.Branches.{IsWholeBranch, tree_below}
use Rattle.judy_node.specs.Kinds.{tree_of, IsLevel}
use Rattle.judy_change.specs.Removals.{width_of}
use Rattle.judy_change.specs.Around.{IsThinned, IsCut}
use Rattle.judy_node.proofs.Maps.{children-length}
use Rattle.judy_node.proofs.Counts.{there}
use Rattle.judy_node.proofs.Shaped.{branch-child}
use Rattle.judy_change.proofs.BelowFacts.{step-absent, inside, kid_child, below_same, below_absent, branch_wide, same_tree}
use Rattle.judy_change.proofs.AroundFacts.{cut-gone, cut-dropped, cut-whole, cut-only, cut-most, cut_one, branch_thinned}
use Rattle.judy_change.proofs.around.+cut.Goals as goal

pub cut_below-returns-in_default-clause-cut : goal.cut_below-returns-in_default-clause-cut
cut_below-returns-in_default-clause-cut g t c =
    (step-absent g.V.Words.WORDS c.args.span.key c.args.branch.now c.step.result c.requires.branch c.step.ensures c.in_default.not-Child, record { branch = c.requires.branch; tree = refl })

pub cut_below-whole_count-requires : goal.cut_below-whole_count-requires
cut_below-whole_count-requires g t c =
    let branch = c.args.branch.now in
    let within = slice_get_within branch.bytes c.in-Child.place c.in-Child.byte c.in-Child.ensures.1 in
    let long = children-length g.V.Words.WORDS branch.width 0 branch.bytes branch.children.items c.requires.branch.parts.children in
    let width = c.requires.branch.parts.within in
    record { place = omega (arith, within, long); width = omega (arith, width); rest = c.in-Child.ensures.0.rest_is }

pub cut_below-lose_child-requires-clause-place : goal.cut_below-lose_child-requires-clause-place
cut_below-lose_child-requires-clause-place g t c = slice_get_within c.args.branch.now.children.items c.in-Child.place c.in-Some.ensures.kid c.in-Some.ensures.there

pub cut_below-lose_child-requires-clause-some : goal.cut_below-lose_child-requires-clause-some
cut_below-lose_child-requires-clause-some g t c = let others = c.in-Some.ensures.others in omega (arith, others)

pub cut_below-returns-in-Some-clause-cut : goal.cut_below-returns-in-Some-clause-cut
cut_below-returns-in-Some-clause-cut g t c =
    let w = c.in-Some.ensures in
    let b = c.args.branch.now in
    let fewer = c.lose_child.ensures.population in
    let others = w.others in
    cut-dropped g.V.Words.WORDS c.args.span.key c.args.span.before c.args.span.after c.in-Child.byte c.in-Child.place c.in-Child.rest b w.kid c.requires.branch c.in-Child.ensures.0
    c.in-Child.ensures.1 w.there c.lose_child.new.branch c.in-Some.count
    (cut-whole g.V.Words.WORDS c.args.span.key c.args.span.before c.args.span.after c.in-Child.byte c.in-Child.place c.in-Child.rest b w.kid c.requires.branch c.in-Child.ensures.0
    c.in-Child.ensures.1 w.there w.low w.high)
    w.counted c.lose_child.ensures.width c.lose_child.ensures.skip c.lose_child.ensures.bytes c.lose_child.ensures.children c.lose_child.ensures.population
    (omega (arith, fewer, others)) (λ _. omega (arith, fewer, others))

pub cut_below-index_mut-requires : goal.cut_below-index_mut-requires
cut_below-index_mut-requires g t c =
    let branch = c.args.branch.now in
    let within = slice_get_within branch.bytes c.in-Child.place c.in-Child.byte c.in-Child.ensures.1 in
    let long = children-length g.V.Words.WORDS branch.width 0 branch.bytes branch.children.items c.requires.branch.parts.children in
    let held = branch.children.ok.0 in
    omega arith

pub cut_below-cut_in-requires : goal.cut_below-cut_in-requires
cut_below-cut_in-requires g t c κs within =
    let falls = c.decreases in
    let within_width = c.requires.branch.parts.within in (
      omega arith,
      (
        within,
        (
          omega arith,
          (
            c.requires.one,
            (
              kid_child g.V.Words.WORDS c.args.span.key c.in-Child.byte c.in-Child.place c.in-Child.rest c.args.branch.now c.index_mut.result.now c.requires.branch
                  c.in-Child.ensures.0 c.in-Child.ensures.1 c.index_mut.ensures.value,
              λ wide. let never : ⊥ = omega arith in absurd never,
            ),
          ),
        ),
      ),
    )

pub cut_below-returns-in-Absent-clause-cut : goal.cut_below-returns-in-Absent-clause-cut
cut_below-returns-in-Absent-clause-cut g t c = (
  below_absent g.V.Words.WORDS c.args.span.key c.in-Child.byte c.in-Child.place c.in-Child.rest c.args.branch.now c.index_mut.result.now c.requires.branch c.in-Child.ensures.0
      c.in-Child.ensures.1 c.index_mut.ensures.value c.in-Absent.ensures.0,
  same_tree g.V.Words.WORDS c.args.branch.now c.in-Child.place c.cut_in.new.child c.requires.branch
      (below_same g.V.Words.WORDS c.args.span.key c.in-Child.byte c.in-Child.place c.in-Child.rest c.args.branch.now c.index_mut.result.now c.requires.branch
      c.in-Child.ensures.0 c.in-Child.ensures.1 c.index_mut.ensures.value c.cut_in.new.child c.in-Absent.ensures.1),
)

pub cut_below-returns-then-branch-eq1-clause-cut : goal.cut_below-returns-then-branch-eq1-clause-cut
cut_below-returns-then-branch-eq1-clause-cut g t c =
    let words = g.V.Words.WORDS in
    let b = c.args.branch.now in
    let kid = c.index_mut.result.now in
    let here = there b.children.items c.in-Child.place kid (inside words c.args.span.key c.in-Child.byte c.in-Child.place c.in-Child.rest b kid c.requires.branch c.in-Child.ensures.0
    c.in-Child.ensures.1 c.index_mut.ensures.value) c.index_mut.ensures.value in (
      cut-only words c.args.span.key c.args.span.before c.args.span.after c.in-Child.byte c.in-Child.place c.in-Child.rest b kid c.requires.branch c.in-Child.ensures.0
          c.in-Child.ensures.1 here c.in-Only.ensures.0 c.in-Only.ensures.1 c.if-branch-eq1.true,
      c.if-branch-eq1.true,
      same_tree words b c.in-Child.place c.cut_in.new.child c.requires.branch
          (below_same words c.args.span.key c.in-Child.byte c.in-Child.place c.in-Child.rest b kid c.requires.branch
          c.in-Child.ensures.0 c.in-Child.ensures.1 c.index_mut.ensures.value c.cut_in.new.child c.in-Only.ensures.2),
    )

pub cut_below-lose_child-requires-in-Only-clause-place : goal.cut_below-lose_child-requires-in-Only-clause-place
cut_below-lose_child-requires-in-Only-clause-place g t c =
    let within = inside g.V.Words.WORDS c.args.span.key c.in-Child.byte c.in-Child.place c.in-Child.rest c.args.branch.now c.index_mut.result.now c.requires.branch
    c.in-Child.ensures.0 c.in-Child.ensures.1 c.index_mut.ensures.value in
    let long = length-set c.args.branch.now.children.items c.in-Child.place c.cut_in.new.child in
    omega arith

pub cut_below-lose_child-requires-in-Only-clause-some : goal.cut_below-lose_child-requires-in-Only-clause-some
cut_below-lose_child-requires-in-Only-clause-some g t c =
    let words = g.V.Words.WORDS in
    let b = c.args.branch.now in
    let kid = c.index_mut.result.now in
    let here = there b.children.items c.in-Child.place kid (inside words c.args.span.key c.in-Child.byte c.in-Child.place c.in-Child.rest b kid c.requires.branch c.in-Child.ensures.0
    c.in-Child.ensures.1 c.index_mut.ensures.value) c.index_mut.ensures.value in
    let most = cut-most words c.args.span.key c.args.span.before c.args.span.after c.in-Child.byte c.in-Child.place c.in-Child.rest b kid c.requires.branch c.in-Child.ensures.0
    c.in-Child.ensures.1 here in
    let one = c.in-Only.ensures.1 in
    omega (arith, most, one)

pub cut_below-returns-else-branch-eq1-clause-cut : goal.cut_below-returns-else-branch-eq1-clause-cut
cut_below-returns-else-branch-eq1-clause-cut g t c =
    let words = g.V.Words.WORDS in
    let b = c.args.branch.now in
    let kid = c.index_mut.result.now in
    let here = there b.children.items c.in-Child.place kid (inside words c.args.span.key c.in-Child.byte c.in-Child.place c.in-Child.rest b kid c.requires.branch c.in-Child.ensures.0
    c.in-Child.ensures.1 c.index_mut.ensures.value) c.index_mut.ensures.value in
    let most = cut-most words c.args.span.key c.args.span.before c.args.span.after c.in-Child.byte c.in-Child.place c.in-Child.rest b kid c.requires.branch c.in-Child.ensures.0
    c.in-Child.ensures.1 here in
    let one = c.in-Only.ensures.1 in
    let more = c.if-branch-eq1.false in
    let fewer = c.lose_child-in-Only.ensures.population in
    cut-dropped words c.args.span.key c.args.span.before c.args.span.after c.in-Child.byte c.in-Child.place c.in-Child.rest b kid c.requires.branch c.in-Child.ensures.0
    c.in-Child.ensures.1 here c.lose_child-in-Only.new.branch 1 c.in-Only.ensures.0 (sym one)
    c.lose_child-in-Only.ensures.width c.lose_child-in-Only.ensures.skip c.lose_child-in-Only.ensures.bytes
    (c.lose_child-in-Only.ensures.children ∙ ap (λ ks. remove ks c.in-Child.place) (below_same words c.args.span.key c.in-Child.byte c.in-Child.place c.in-Child.rest b
    kid c.requires.branch c.in-Child.ensures.0 c.in-Child.ensures.1 c.index_mut.ensures.value c.cut_in.new.child c.in-Only.ensures.2)) fewer
    (omega (arith, fewer, more, most, one)) (λ three. omega (arith, fewer, three))

pub cut_below-overflow_sub-branch : goal.cut_below-overflow_sub-branch
cut_below-overflow_sub-branch g t c =
    let words = g.V.Words.WORDS in
    let b = c.args.branch.now in
    let kid = c.index_mut.result.now in
    let here = there b.children.items c.in-Child.place kid (inside words c.args.span.key c.in-Child.byte c.in-Child.place c.in-Child.rest b kid c.requires.branch c.in-Child.ensures.0
    c.in-Child.ensures.1 c.index_mut.ensures.value) c.index_mut.ensures.value in
    let most = cut-most words c.args.span.key c.args.span.before c.args.span.after c.in-Child.byte c.in-Child.place c.in-Child.rest b kid c.requires.branch c.in-Child.ensures.0
    c.in-Child.ensures.1 here in
    let counted = c.in-Gone.ensures.counted in
    omega (arith, most, counted)

pub cut_below-count_off-requires : goal.cut_below-count_off-requires
cut_below-count_off-requires g t c =
    let words = g.V.Words.WORDS in
    let b = c.args.branch.now in
    let kid = c.index_mut.result.now in
    let within = inside words c.args.span.key c.in-Child.byte c.in-Child.place c.in-Child.rest b kid c.requires.branch c.in-Child.ensures.0 c.in-Child.ensures.1 c.index_mut.ensures.value in
    let counted = c.in-Gone.ensures.counted in (
      b.children.items,
      kid,
      c.requires.sums,
      within,
      subst (λ (k : Tree). c.in-Gone.count ≤ length k.pairs) c.index_mut.ensures.value (omega (arith, counted)),
    )

pub cut_below-returns-in-Gone-clause-cut : goal.cut_below-returns-in-Gone-clause-cut
cut_below-returns-in-Gone-clause-cut g t c =
    let words = g.V.Words.WORDS in
    let b = c.args.branch.now in
    let kid = c.index_mut.result.now in
    let here = there b.children.items c.in-Child.place kid (inside words c.args.span.key c.in-Child.byte c.in-Child.place c.in-Child.rest b kid c.requires.branch c.in-Child.ensures.0
    c.in-Child.ensures.1 c.index_mut.ensures.value) c.index_mut.ensures.value in
    let most = cut-most words c.args.span.key c.args.span.before c.args.span.after c.in-Child.byte c.in-Child.place c.in-Child.rest b kid c.requires.branch c.in-Child.ensures.0
    c.in-Child.ensures.1 here in
    let counted = c.in-Gone.ensures.counted in
    cut-gone words c.args.span.key c.args.span.before c.args.span.after c.in-Child.byte c.in-Child.place c.in-Child.rest b kid c.requires.branch c.in-Child.ensures.0
    c.in-Child.ensures.1 here _ c.cut_in.new.child c.in-Gone.count c.in-Gone.shrunk c.in-Gone.ensures refl refl refl refl (omega (arith, most, counted))

pub cut_below-returns-in-Gone-clause-sums : goal.cut_below-returns-in-Gone-clause-sums
cut_below-returns-in-Gone-clause-sums g t c =
    let words = g.V.Words.WORDS in
    let b = c.args.branch.now in
    let kid = c.index_mut.result.now in
    let within = inside words c.args.span.key c.in-Child.byte c.in-Child.place c.in-Child.rest b kid c.requires.branch c.in-Child.ensures.0 c.in-Child.ensures.1 c.index_mut.ensures.value in
    let same = ap (λ (k : Tree). length k.pairs) (c.index_mut.ensures.value ∙ get_or_default b.children.items c.in-Child.place kid c.cut_in.new.child within) in
    c.count_off.ensures b.children.items c.cut_in.new.child c.requires.sums within (c.in-Gone.ensures.counted ∙ same)

pub cut_kind-settle-settled-requires-clause-child : goal.cut_kind-settle-settled-requires-clause-child
cut_kind-settle-settled-requires-clause-child g t c =
    let words = g.V.Words.WORDS in
    let n = c.cut_below.new.branch in
    let child = subst (λ kind. IsChild words c.args.width (tree_of words kind)) c.in-Branch.is c.requires.child in
    let wide = c.in-Gone.ensures.cut.width ∙ ap width_of c.deref_mut.ensures.value ∙ branch_wide words c.args.width c.in-Branch.branch.value child in
    subst (λ w. IsChild words w (tree_below n)) wide (branch-child words n.width n.skip n.bytes n.children.items n.population c.in-Gone.ensures.cut.branch)

pub cut_kind-settle-settled-requires-clause-two : goal.cut_kind-settle-settled-requires-clause-two
cut_kind-settle-settled-requires-clause-two g t c =
    λ wide.
    let words = g.V.Words.WORDS in
    let level = (subst (IsLevel words) c.in-Branch.is c.requires.level).0 in
    let three = subst (λ kind. c.args.width ≡ 8 → 3 ≤ length (tree_of words kind).pairs) c.in-Branch.is c.requires.three wide in
    let same = ap (λ b. b.population) c.deref_mut.ensures.value in
    let were = level.parts.counted in
    let are = c.in-Gone.ensures.cut.branch.parts.counted in
    let two = c.in-Gone.ensures.cut.two (omega (arith, same, were, three)) in
    omega (arith, two, are)

pub cut_kind-returns-in-Gone-clause-cut : goal.cut_kind-returns-in-Gone-clause-cut
cut_kind-returns-in-Gone-clause-cut g t c =
    let words = g.V.Words.WORDS in
    let key = c.args.span.key in
    let before = c.args.span.before in
    let after = c.args.span.after in
    let level = (subst (IsLevel words) c.in-Branch.is c.requires.level).0 in
    let child = subst (λ kind. IsChild words c.args.width (tree_of words kind)) c.in-Branch.is c.requires.child in
    let new = tree_of words c.settle-settled.new.kind in
    subst (λ kind. IsThinned words c.args.width key before after (tree_of words kind) new c.in-Gone.count c.both.result) (sym c.in-Branch.is)
    (subst (λ b. IsThinned words c.args.width key before after (tree_below b) new c.in-Gone.count c.both.result) c.deref_mut.ensures.value
    (branch_thinned words c.args.width key before after c.deref_mut.result.now c.cut_below.new.branch c.in-Gone.count c.in-Gone.shrunk c.settle-settled.result c.both.result new
    (subst (IsWholeBranch words) (sym c.deref_mut.ensures.value) level) (ap width_of c.deref_mut.ensures.value ∙ branch_wide words c.args.width c.in-Branch.branch.value child)
    c.in-Gone.ensures.cut c.settle-settled.ensures.settled c.both.ensures))

pub cut_kind-returns-in_default : goal.cut_kind-returns-in_default
cut_kind-returns-in_default g t c =
    let words = g.V.Words.WORDS in
    let old = tree_of words c.args.kind.now in
    let new = tree_of words c.remove_childless.new.kind in
    record {
      level = c.remove_childless.ensures.level;
      cut = subst (IsCut words c.args.width c.args.span.key c.args.span.before c.args.span.after old new) (sym c.cut_of.ensures)
          (cut_one words c.args.width c.args.span.key c.args.span.before c.args.span.after old new c.remove_childless.result c.requires.child c.remove_childless.ensures.taken);
    }
