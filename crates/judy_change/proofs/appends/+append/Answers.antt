use Rattle.std.proofs.Common.{◌≡◌, Some, slice_get, ◌+◌, ◌*◌, ◌/◌, ◌%◌, ◌^◌, ◌<◌, length, refl, sym, ap, ◌∙◌, subst, arith}
use Rattle.judy_model.specs.WordBytes.{number_of}
use Rattle.judy_model.proofs.lemmas.orders.ByteLemmas.{unit_pos}
use Rattle.judy_node.specs.Trees.{IsChild, IsBranch}
use Rattle.judy_node.specs.Populations.{AreSums}
use Rattle.judy_node.specs.Kinds.{tree_of, IsLevel}
use Rattle.judy_node.specs.Steps.{IsStep}
use Rattle.judy_node.specs.declared.step.Step.TheVariants.{Child, Missing}
use Rattle.judy_change.specs.Appended.{first_key}
use Rattle.judy_change.specs.Removals.{width_of}
use Rattle.judy_change.proofs.BelowFacts.{branch_wide}
use Rattle.judy_change.proofs.InsertFacts.{still_child}
use Rattle.judy_change.proofs.KidInserts.{place_within, kid_of, kid_child}
use Rattle.judy_change.proofs.AppendFacts.{key_parts, kid_fewer, kid_level, kid_longer}
use Rattle.judy_change.proofs.appends.+append.Goals as goal

pub append_to_child-index_mut-requires : goal.append_to_child-index_mut-requires
append_to_child-index_mut-requires g t c =
    let b = c.args.branch.now in
    let within = place_within c.requires.level c.requires.here in
    let held = b.children.ok.0 in
    omega arith

pub append_to_child-overflow_add-place : goal.append_to_child-overflow_add-place
append_to_child-overflow_add-place g t c =
    let b = c.args.branch.now in
    let within = place_within c.requires.level c.requires.here in
    let held = b.children.ok.0 in
    omega arith

pub append_to_child-append_in-count-requires : goal.append_to_child-append_in-count-requires
append_to_child-append_in-count-requires g t c κs within =
    let b = c.args.branch.now in
    let kid = kid_of c.requires.level (unit_pos b.width) c.requires.here c.index_mut.ensures.value in
    let falls = c.decreases in
    let fewer = kid_fewer kid in
    let room = c.requires.room in (
      omega arith,
      (
        within,
        (
          omega arith,
          (
            c.requires.one,
            (
              kid_child kid,
              (c.requires.some, (c.requires.key, (c.requires.map, omega arith))),
            ),
          ),
        ),
      ),
    )

pub append_to_child-sums_of_children-requires : goal.append_to_child-sums_of_children-requires
append_to_child-sums_of_children-requires g t c =
    let b = c.args.branch.now in
    let kid = kid_of c.requires.level (unit_pos b.width) c.requires.here c.index_mut.ensures.value in
    let told = c.len.ensures in
    let beyond = c.if-place-len.false in
    kid_level kid c.args.more.pairs.now c.requires.head (omega arith)
    c.append_in-count.result c.append_in-count.new.child c.append_in-count.ensures.longer c.append_in-count.ensures.child

pub append_to_child-returns : goal.append_to_child-returns
append_to_child-returns g t c =
    let b = c.args.branch.now in
    let kid = kid_of c.requires.level (unit_pos b.width) c.requires.here c.index_mut.ensures.value in
    let told = c.len.ensures in
    let beyond = c.if-place-len.false in
    record {
      level = kid_level kid c.args.more.pairs.now c.requires.head (omega arith)
          c.append_in-count.result c.append_in-count.new.child c.append_in-count.ensures.longer c.append_in-count.ensures.child;
      sums = c.sums_of_children.ensures;
      skip = refl;
      width = refl;
      longer = kid_longer kid c.args.more.pairs.now c.requires.head (omega arith)
          c.append_in-count.result c.append_in-count.new.child c.append_in-count.ensures.longer c.append_in-count.ensures.child c.if-count-eq0.false;
    }

pub append_to_kind-append_to_child-requires : goal.append_to_kind-append_to_child-requires
append_to_kind-append_to_child-requires g t c κs within =
    let words = g.V.Words.WORDS in
    let branch = c.in-Branch.branch.value in
    let pairs = c.args.more.pairs.now in
    let level = subst (IsLevel words) c.in-Branch.is c.requires.level in
    let child = subst (λ kind. IsChild words c.args.width (tree_of words kind)) c.in-Branch.is c.requires.child in
    let wide = branch_wide words c.args.width branch child in
    let wide_now = ap width_of c.deref_mut.ensures.value ∙ wide in
    let step = subst (λ b. IsStep (256 ^ b.width) (number_of b.skip * 256) b.bytes c.args.key (Child c.in-Child.byte c.in-Child.place c.in-Child.rest)) c.deref.ensures c.in-Child.ensures in
    let parts = key_parts branch.width (length branch.skip + 1) c.args.key (number_of branch.skip * 256) c.in-Child.byte c.in-Child.rest (first_key pairs) step.0
    (c.requires.key ∙ ap (λ w. first_key pairs % 256 ^ w) (sym wide)) in
    let room = subst (λ kind. length (tree_of words kind).pairs + length pairs < 18446744073709551616) c.in-Branch.is c.requires.room in
    let falls = c.decreases in (
      omega arith,
      (
        within,
        (
          c.requires.one,
          (
            subst (λ b. IsBranch words b.width b.skip b.bytes b.children.items b.population) (sym c.deref_mut.ensures.value) level.0,
            (
              subst (λ b. AreSums b.sums b.children.items) (sym c.deref_mut.ensures.value) level.1,
              (
                subst (λ b. slice_get b.bytes c.in-Child.place ≡ Some c.in-Child.byte) (sym c.deref_mut.ensures.value) step.1,
                (
                  c.requires.some,
                  (
                    subst (λ b. first_key pairs / 256 ^ b.width % 256 ^ (length b.skip + 1) ≡ number_of b.skip * 256 + c.in-Child.byte) (sym c.deref_mut.ensures.value) parts.0,
                    (
                      subst (λ b. c.in-Child.rest ≡ first_key pairs % 256 ^ b.width) (sym c.deref_mut.ensures.value) parts.1,
                      (
                        c.requires.map,
                        subst (λ b. b.population + length pairs < 18446744073709551616) (sym c.deref_mut.ensures.value)
                            (subst (λ n. n + length pairs < 18446744073709551616) (sym level.0.parts.counted) room),
                      ),
                    ),
                  ),
                ),
              ),
            ),
          ),
        ),
      ),
    )

pub append_to_kind-append_child-requires-clause-head : goal.append_to_kind-append_child-requires-clause-head
append_to_kind-append_child-requires-clause-head g t c =
    let words = g.V.Words.WORDS in
    let branch = c.in-Branch.branch.value in
    let pairs = c.args.more.pairs.now in
    let child = subst (λ kind. IsChild words c.args.width (tree_of words kind)) c.in-Branch.is c.requires.child in
    let wide = branch_wide words c.args.width branch child in
    let step = subst (λ b. IsStep (256 ^ b.width) (number_of b.skip * 256) b.bytes c.args.key (Missing c.in-Missing.byte c.in-Missing.place c.in-Missing.field-2))
    c.deref.ensures c.in-Missing.ensures in
    let parts = key_parts branch.width (length branch.skip + 1) c.args.key (number_of branch.skip * 256) c.in-Missing.byte c.in-Missing.field-2 (first_key pairs) step.0
    (c.requires.key ∙ ap (λ w. first_key pairs % 256 ^ w) (sym wide)) in
    subst (λ b. first_key pairs / 256 ^ b.width % 256 ^ (length b.skip + 1) ≡ number_of b.skip * 256 + c.in-Missing.byte) (sym c.deref_mut-in-Missing.ensures.value) parts.0

pub append_to_kind-returns-in-Child-clause-child : goal.append_to_kind-returns-in-Child-clause-child
append_to_kind-returns-in-Child-clause-child g t c =
    still_child g.V.Words.WORDS c.args.width c.args.kind.now c.in-Branch.branch c.deref_mut.result.now c.append_to_child.new.branch c.in-Branch.is c.requires.child c.deref_mut.ensures.value
    c.append_to_child.ensures.skip c.append_to_child.ensures.width c.append_to_child.ensures.level

pub append_to_kind-returns-in-Missing-clause-child : goal.append_to_kind-returns-in-Missing-clause-child
append_to_kind-returns-in-Missing-clause-child g t c =
    still_child g.V.Words.WORDS c.args.width c.args.kind.now c.in-Branch.branch c.deref_mut-in-Missing.result.now c.append_child.new.branch c.in-Branch.is
    c.requires.child c.deref_mut-in-Missing.ensures.value
    c.append_child.ensures.skip c.append_child.ensures.width c.append_child.ensures.level
