use Rattle.std.proofs.Common.{◌≡◌, ◌+◌, ◌-◌, ◌^◌, ◌<◌, [], ◌∷◌, ◌++◌, length, drop, sym, refl, ◌∙◌, subst, arith}
use Rattle.std.proofs.lemmas.List.{length-take-le}
use Rattle.std.proofs.lemmas.Bool.{eqb-true, eqb-false}
use Rattle.judy_leaf.specs.KeyLists.{low_pairs}
use Rattle.judy_node.specs.Trees.{IsMap, IsBranch, branch_tree}
use Rattle.judy_node.specs.Kinds.{tree_of}
use Rattle.judy_node.specs.Populations.{AreSums}
use Rattle.judy_node.specs.Built.{sharing, IsBuilt, AreMade}
use Rattle.judy_node.proofs.Groups.{with_byte-push}
use Rattle.judy_node.proofs.Leaves.{map_list, map_free}
use Rattle.judy_node.proofs.BuiltFacts.{leaf_made, leaf_built}
use Rattle.judy_node.proofs.MadeFacts.{made_none, group_map, group_some, made_more, made_branch, made_built, byte_before, behind_built, one_byte_map, length_none}
use Rattle.judy_node.proofs.build.+build.Goals as goal

pub add_group-slice_bounds-add_child-end : goal.add_group-slice_bounds-add_child-end
add_group-slice_bounds-add_child-end g t c =
    let bounds = group_some c.args.below c.args.rest.now c.byte_above-byte.result c.group_end-end.result c.requires.some c.byte_above-byte.ensures c.group_end-end.ensures in
    sym (length-take-le c.group_end-end.result c.args.rest.now bounds.1)

pub add_group-add_child-requires : goal.add_group-add_child-requires
add_group-add_child-requires g t c κs within =
    let bounds = group_some c.args.below c.args.rest.now c.byte_above-byte.result c.group_end-end.result c.requires.some c.byte_above-byte.ensures c.group_end-end.ensures in
    let first = bounds.0 in
    let long = length-take-le c.group_end-end.result c.args.rest.now bounds.1 in
    let made = c.requires.made in
    let falls = c.decreases in (
      omega arith,
      (
        within,
        (
          omega arith,
          (
            c.requires.one,
            (
              c.requires.width,
              (
                omega arith,
                group_map g.V.Words.WORDS c.args.below c.args.pairs.now c.args.rest.now c.args.bytes.now c.args.children.now.items made.0 c.byte_above-byte.result
                    c.group_end-end.result made.1 c.group_end-end.ensures,
              ),
            ),
          ),
        ),
      ),
    )

pub add_group-returns-clause-fewer : goal.add_group-returns-clause-fewer
add_group-returns-clause-fewer g t c =
    let bounds = group_some c.args.below c.args.rest.now c.byte_above-byte.result c.group_end-end.result c.requires.some c.byte_above-byte.ensures c.group_end-end.ensures in
    let first = bounds.0 in
    let last = bounds.1 in
    let left = c.split_at.ensures.back_len in
    omega arith

pub add_group-returns-clause-made : goal.add_group-returns-clause-made
add_group-returns-clause-made g t c =
    let words = g.V.Words.WORDS in
    let old = c.args.bytes.now in
    let before = c.args.children.now.items in
    let made = c.requires.made in
    let bytes = c.add.ensures ∙ with_byte-push c.byte_above-byte.result old
    (byte_before words c.args.below c.args.pairs.now c.args.rest.now old before made.0 c.byte_above-byte.result made.1 c.requires.some c.byte_above-byte.ensures) in
    let put = c.in_ok-add_child.ensures in (
      c.byte_above-byte.result + 1,
      subst (λ left. AreMade words c.args.below c.args.pairs.now left c.add.new.self c.add_child.new.children.items (c.byte_above-byte.result + 1)) (sym c.split_at.ensures.back)
          (subst (λ bs. AreMade words c.args.below c.args.pairs.now (drop c.group_end-end.result c.args.rest.now) bs c.add_child.new.children.items (c.byte_above-byte.result + 1)) (sym bytes)
          (subst (λ ks. AreMade words c.args.below c.args.pairs.now (drop c.group_end-end.result c.args.rest.now) (old ++ c.byte_above-byte.result ∷ []) ks (c.byte_above-byte.result + 1)) (sym put.2)
          (made_more words c.args.below c.args.pairs.now c.args.rest.now old before made.0 c.byte_above-byte.result c.group_end-end.result put.0 made.1 c.requires.some
          c.byte_above-byte.ensures (omega (arith, c.byte_above-byte.type_inv)) c.group_end-end.ensures put.1 c.requires.two))),
    )

pub add_child-kind_of_sorted-requires : goal.add_child-kind_of_sorted-requires
add_child-kind_of_sorted-requires g t c κs within =
    let more = c.fits_immediate.ensures.more c.if-fits_immediate.false in
    let high = c.requires.width.1 in
    let falls = c.decreases in
    (omega arith, (within, (c.requires.one, ((c.requires.width.0, omega arith), (more, c.requires.map)))))

pub kind_of_sorted-many-requires : goal.kind_of_sorted-many-requires
kind_of_sorted-many-requires g t c κs within =
    let many = c.if-pairs-gt-LEAF_ROOM.true in
    let falls = c.decreases in
    (omega arith, (within, (c.requires.one, (c.requires.width, (omega arith, c.requires.map)))))

pub kind_of_sorted-from_sorted-requires-clause-list : goal.kind_of_sorted-from_sorted-requires-clause-list
kind_of_sorted-from_sorted-requires-clause-list g t c = map_list g.V.Words.WORDS c.args.width (low_pairs (256 ^ c.args.width) c.args.pairs.now) c.requires.width.0 c.requires.width.1 c.requires.map

pub kind_of_sorted-from_sorted-requires-clause-no_values : goal.kind_of_sorted-from_sorted-requires-clause-no_values
kind_of_sorted-from_sorted-requires-clause-no_values g t c = map_free g.V.Words.WORDS 0 (256 ^ c.args.width) (256 ^ c.args.width) c.args.pairs.now c.requires.map

pub kind_of_sorted-returns-clause-level : goal.kind_of_sorted-returns-clause-level
kind_of_sorted-returns-clause-level g t c =
    let made = c.into_parts-count.ensures in
    leaf_made g.V.Words.WORDS c.args.width c.into_parts-count.result.0 c.into_parts-count.result.1 c.args.pairs.now made.parts (made.list ∙ c.in_ok-from_sorted.ensures) c.requires.more

pub kind_of_sorted-returns-clause-built : goal.kind_of_sorted-returns-clause-built
kind_of_sorted-returns-clause-built g t c =
    let made = c.into_parts-count.ensures in
    leaf_built g.V.Words.WORDS c.args.width c.into_parts-count.result.0 c.into_parts-count.result.1 c.args.pairs.now made.parts (made.list ∙ c.in_ok-from_sorted.ensures) c.requires.more
    c.requires.width.0 c.requires.width.1 c.requires.map

pub many-split-requires : goal.many-split-requires
many-split-requires g t c κs within =
    let low = c.requires.width.0 in
    let high = c.requires.width.1 in
    let apart = c.if-width-eq1.false in
    let falls = c.decreases in
    let apart_ends = c.all_have.ensures.apart c.if-not-all_have.true in
    let fewer = subst (λ b. sharing (256 ^ (c.args.width - 1)) 256 b c.args.pairs.now < length c.args.pairs.now) c.byte_above-byte.ensures apart_ends in
    let width : c.args.width ≡ c.args.width - 1 + 1 = omega arith in (
      omega arith,
      (
        within,
        (
          c.requires.one,
          (
            (omega arith, omega arith),
            (
              c.requires.more,
              (
                omega arith,
                subst (λ w. IsMap g.V.Words.WORDS 0 (256 ^ w) (low_pairs (256 ^ w) c.args.pairs.now)) width c.requires.map,
              ),
            ),
          ),
        ),
      ),
    )

pub many-many-requires : goal.many-many-requires
many-many-requires g t c κs within =
    let low = c.requires.width.0 in
    let high = c.requires.width.1 in
    let apart = c.if-width-eq1.false in
    let falls = c.decreases in
    let width : c.args.width ≡ c.args.width - 1 + 1 = omega arith in (
      omega arith,
      (
        within,
        (
          c.requires.one,
          (
            (omega arith, omega arith),
            (
              c.requires.more,
              one_byte_map g.V.Words.WORDS (c.args.width - 1) c.args.pairs.now c.byte_above-byte.result
                  (sharing (256 ^ (c.args.width - 1)) 256 c.byte_above-byte.result c.args.pairs.now) refl (c.all_have.ensures.all c.if-not-all_have.false)
                  (subst (λ w. IsMap g.V.Words.WORDS 0 (256 ^ w) (low_pairs (256 ^ w) c.args.pairs.now)) width c.requires.map),
            ),
          ),
        ),
      ),
    )

pub many-returns-clause-built : goal.many-returns-clause-built
many-returns-clause-built g t c =
    let words = g.V.Words.WORDS in
    let low = c.requires.width.0 in
    let high = c.requires.width.1 in
    let apart = c.if-width-eq1.false in
    let width : c.args.width ≡ c.args.width - 1 + 1 = omega arith in
    subst (λ w. IsBuilt words w c.args.pairs.now (tree_of words c.behind.result)) (sym width)
    (behind_built words (c.args.width - 1) c.byte_above-byte.result (sharing (256 ^ (c.args.width - 1)) 256 c.byte_above-byte.result c.args.pairs.now) c.args.pairs.now
    c.in_ok-kind.kind c.behind.result c.in_ok-kind.ensures.level.0 c.in_ok-kind.ensures.level.1 c.in_ok-kind.ensures.built
    c.behind.ensures.level c.behind.ensures.tree refl (c.all_have.ensures.all c.if-not-all_have.false) (omega arith) (omega arith)
    (subst (λ w. IsMap words 0 (256 ^ w) (low_pairs (256 ^ w) c.args.pairs.now)) width c.requires.map))

pub split-loop-rest-init : goal.split-loop-rest-init
split-loop-rest-init g t c =
    let words = g.V.Words.WORDS in
    let many = c.requires.more in (
      0,
      subst (λ bs. AreMade words c.args.below c.args.pairs.now c.args.pairs.now bs c.in_ok-children.children.items 0) (sym c.new-bytes.ensures)
          (subst (λ ks. AreMade words c.args.below c.args.pairs.now c.args.pairs.now [] ks 0) (sym c.in_ok-children.ensures.items)
          (made_none words c.args.below c.args.pairs.now c.requires.map (omega arith))),
    )

pub split-add_group-requires : goal.split-add_group-requires
split-add_group-requires g t c κs within =
    let falls = c.decreases in
    let test = c.loop-rest-test.true in
    let empty = c.is_empty.ensures in
    let apart = eqb-false (length c.loop-rest.rest.now) 0 (sym empty ∙ test) in
    (omega arith, (within, (omega arith, (c.requires.one, (c.requires.width, (omega arith, (c.requires.two, c.loop-rest.invariant)))))))

pub split-loop-rest-smaller : goal.split-loop-rest-smaller
split-loop-rest-smaller g t c = c.in_ok-rest.ensures.fewer

pub split-loop-rest-preserved : goal.split-loop-rest-preserved
split-loop-rest-preserved g t c = c.in_ok-rest.ensures.made

pub split-returns-clause-level : goal.split-returns-clause-level
split-returns-clause-level g t c =
    let words = g.V.Words.WORDS in
    let made = c.loop-rest.invariant in
    let kids = c.loop-rest.children.items in
    let n = length c.args.pairs.now in
    let over = length_none c.loop-rest.rest.now (eqb-true (length c.loop-rest.rest.now) 0 (sym c.is_empty.ensures ∙ c.loop-rest-test.false)) in
    subst (λ v. IsBranch words v.width v.skip v.bytes v.children.items v.population) (sym c.in_ok-new.ensures.ok)
    (subst (λ s. IsBranch words c.args.below s c.of_bits.result kids n) (sym c.new.ensures)
    (subst (λ bs. IsBranch words c.args.below [] bs kids n) (sym c.of_bits.ensures)
    (made_branch words c.args.below c.args.pairs.now c.loop-rest.rest.now c.loop-rest.bytes kids made.0 made.1 over c.requires.width.0 c.requires.width.1 c.requires.more)))

pub split-returns-clause-sums : goal.split-returns-clause-sums
split-returns-clause-sums g t c = subst (λ v. AreSums v.sums v.children.items) (sym c.in_ok-new.ensures.ok) c.sums_of_children.ensures

pub split-returns-clause-built : goal.split-returns-clause-built
split-returns-clause-built g t c =
    let words = g.V.Words.WORDS in
    let made = c.loop-rest.invariant in
    let kids = c.loop-rest.children.items in
    let n = length c.args.pairs.now in
    let over = length_none c.loop-rest.rest.now (eqb-true (length c.loop-rest.rest.now) 0 (sym c.is_empty.ensures ∙ c.loop-rest-test.false)) in
    subst (λ v. IsBuilt words (c.args.below + 1) c.args.pairs.now (branch_tree v.width v.skip v.bytes v.children.items v.population)) (sym c.in_ok-new.ensures.ok)
    (subst (λ s. IsBuilt words (c.args.below + 1) c.args.pairs.now (branch_tree c.args.below s c.of_bits.result kids n)) (sym c.new.ensures)
    (subst (λ bs. IsBuilt words (c.args.below + 1) c.args.pairs.now (branch_tree c.args.below [] bs kids n)) (sym c.of_bits.ensures)
    (made_built words c.args.below c.args.pairs.now c.loop-rest.rest.now c.loop-rest.bytes kids made.0 made.1 over c.requires.width.0 c.requires.width.1 c.requires.more)))

pub add_group-split_at-requires : goal.add_group-split_at-requires
add_group-split_at-requires g t c =
    let bounds = group_some c.args.below c.args.rest.now c.byte_above-byte.result c.group_end-end.result c.requires.some c.byte_above-byte.ensures c.group_end-end.ensures in
    bounds.1

pub split-sums_of_children-requires : goal.split-sums_of_children-requires
split-sums_of_children-requires g t c =
    let words = g.V.Words.WORDS in
    let made = c.loop-rest.invariant in
    let kids = c.loop-rest.children.items in
    let n = length c.args.pairs.now in
    let over = length_none c.loop-rest.rest.now (eqb-true (length c.loop-rest.rest.now) 0 (sym c.is_empty.ensures ∙ c.loop-rest-test.false)) in
    subst (λ s. IsBranch words c.args.below s c.of_bits.result kids n) (sym c.new.ensures)
    (subst (λ bs. IsBranch words c.args.below [] bs kids n) (sym c.of_bits.ensures)
    (made_branch words c.args.below c.args.pairs.now c.loop-rest.rest.now c.loop-rest.bytes kids made.0 made.1 over c.requires.width.0 c.requires.width.1 c.requires.more))
