use Rattle.std.proofs.Common.{◌≡◌, ◌+◌, ◌-◌, ◌*◌, ◌^◌, ◌<◌, ◌≤◌, [], ◌∷◌, ◌++◌, sym, ap, ◌∙◌, subst, arith}
use Rattle.judy_node.specs.Trees.{IsBranch, branch_tree}
use Rattle.judy_node.specs.Kinds.{IsLevel, tree_of, IsBit, bit_tree, bit_width, behind}
use Rattle.judy_node.specs.Populations.{AreSums}
use Rattle.judy_node.proofs.Behind.{bit_behind, bit_behind_tree, bit_number_fits, front_sum, front_fits, branch_behind, branch_behind_tree}
use Rattle.judy_node.proofs.child.KindOf.behind.Goals as goal

pub moved_up-front-requires-clause-within : goal.moved_up-front-requires-clause-within
moved_up-front-requires-clause-within g c =
    let words = g.V.Words.WORDS in
    let level = subst (λ kind. IsLevel words kind) c.in-Bit.is c.requires.level in
    let room = subst (λ kind. (tree_of words kind).width + 1 ≤ 8) c.in-Bit.is c.requires.width in
    let fits = bit_number_fits words c.in-Bit.head c.args.byte c.in-Bit.block level (omega (arith, c.ranges.byte)) room in
    let same : c.from.result * 256 ^ (c.bit_width.result - 1) ≡ c.args.byte * 256 ^ (bit_width c.in-Bit.block - 1) = (λ t. c.from.ensures t * 256 ^ (c.bit_width.ensures t - 1)) in
    subst (λ n. n < 2 ^ 64) (sym same) (omega arith)

pub new-head-requires : goal.new-head-requires
new-head-requires g c =
    let words = g.V.Words.WORDS in
    front_fits words c.in-Bit.head c.args.byte c.in-Bit.block (subst (λ kind. IsLevel words kind) c.in-Bit.is c.requires.level) (omega (arith, c.ranges.byte))
    (subst (λ kind. (tree_of words kind).width + 1 ≤ 8) c.in-Bit.is c.requires.width) (front_sum c.bit_width.ensures c.from.ensures c.moved_up-front.ensures c.number.ensures.value)

pub overflow_add-front : goal.overflow_add-front
overflow_add-front g c =
    let words = g.V.Words.WORDS in
    let fits = front_fits words c.in-Bit.head c.args.byte c.in-Bit.block (subst (λ kind. IsLevel words kind) c.in-Bit.is c.requires.level) (omega (arith, c.ranges.byte))
    (subst (λ kind. (tree_of words kind).width + 1 ≤ 8) c.in-Bit.is c.requires.width) (front_sum c.bit_width.ensures c.from.ensures c.moved_up-front.ensures c.number.ensures.value) in
    omega arith

pub returns-in-Bit-clause-level : goal.returns-in-Bit-clause-level
returns-in-Bit-clause-level g c =
    let words = g.V.Words.WORDS in
    let number = c.new-head.ensures ∙ front_sum c.bit_width.ensures c.from.ensures c.moved_up-front.ensures c.number.ensures.value in
    subst (λ b. IsBit words c.new-head.result b) (sym c.widen_bits.ensures)
    (subst (λ n. IsBit words n (record c.in-Bit.block { tag = c.in-Bit.block.tag + 65536 })) (sym number)
    (bit_behind words c.in-Bit.head c.args.byte c.in-Bit.block (subst (λ kind. IsLevel words kind) c.in-Bit.is c.requires.level) (omega (arith, c.ranges.byte))
    (subst (λ kind. (tree_of words kind).width + 1 ≤ 8) c.in-Bit.is c.requires.width)))

pub returns-in-Bit-clause-tree : goal.returns-in-Bit-clause-tree
returns-in-Bit-clause-tree g c =
    let words = g.V.Words.WORDS in
    let number = c.new-head.ensures ∙ front_sum c.bit_width.ensures c.from.ensures c.moved_up-front.ensures c.number.ensures.value in
    (λ t. bit_tree words (number t) (c.widen_bits.ensures t))
    ∙ bit_behind_tree words c.in-Bit.head c.args.byte c.in-Bit.block (subst (λ kind. IsLevel words kind) c.in-Bit.is c.requires.level) (omega (arith, c.ranges.byte))
    ∙ ap (λ kind. behind (c.args.byte ∷ []) (tree_of words kind)) (sym c.in-Bit.is)

pub returns-in-Branch-clause-level : goal.returns-in-Branch-clause-level
returns-in-Branch-clause-level g c =
    let words = g.V.Words.WORDS in
    let below : c.args.byte < 256 = omega (arith, c.ranges.byte) in
    let level = subst (λ kind. IsLevel words kind) c.in-Branch.is c.requires.level in
    let room = subst (λ kind. (tree_of words kind).width + 1 ≤ 8) c.in-Branch.is c.requires.width in
    let old = c.in-Branch.branch.value in
    let skip = c.joined.ensures ∙ (λ t. c.new.ensures t ++ c.args.byte ∷ ap (λ b. b.skip) c.deref.ensures t) in (
      subst (λ s. IsBranch words c.deref_mut.result.now.width s c.deref_mut.result.now.bytes c.deref_mut.result.now.children.items c.deref_mut.result.now.population) (sym skip)
          (subst (λ b. IsBranch words b.width (c.args.byte ∷ old.skip) b.bytes b.children.items b.population) (sym c.deref_mut.ensures.value)
          (branch_behind words old.width c.args.byte old.skip old.bytes old.children.items old.population level.0 below room)),
      subst (λ b. AreSums b.sums b.children.items) (sym c.deref_mut.ensures.value) level.1,
    )

pub returns-in-Branch-clause-tree : goal.returns-in-Branch-clause-tree
returns-in-Branch-clause-tree g c =
    let words = g.V.Words.WORDS in
    let old = c.in-Branch.branch.value in
    let skip = c.joined.ensures ∙ (λ t. c.new.ensures t ++ c.args.byte ∷ ap (λ b. b.skip) c.deref.ensures t) in
    ap (λ s. branch_tree c.deref_mut.result.now.width s c.deref_mut.result.now.bytes c.deref_mut.result.now.children.items c.deref_mut.result.now.population) skip
    ∙ ap (λ b. branch_tree b.width (c.args.byte ∷ old.skip) b.bytes b.children.items b.population) c.deref_mut.ensures.value
    ∙ branch_behind_tree old.width c.args.byte old.skip old.bytes old.children.items old.population
    ∙ ap (λ kind. behind (c.args.byte ∷ []) (tree_of words kind)) (sym c.in-Branch.is)
