use Rattle.std.proofs.Common.{◌^◌, length, ap, ◌∙◌, arith}
use Rattle.std.proofs.lemmas.List.{take_all}
use Rattle.judy_model.specs.Forms.{shape_in}
use Rattle.judy_node.specs.Trees.{forms_in}
use Rattle.judy_node.specs.ShapeSums.{shape_as, plus, nodes_in}
use Rattle.judy_node.proofs.ShapeFacts.{shape-more, shape-room, branch-first, forms-within, nodes-branch}
use Rattle.judy_node.proofs.+shape.Goals as goal

pub shape::count_branch-count_into-requires : goal.shape::count_branch-count_into-requires
shape::count_branch-count_into-requires g t c κs within =
    let kids = c.deref-child-items.result.now in
    let same = ap (λ k. length (forms_in k)) c.deref-child-items.ensures.value in
    let parts = forms-within kids c.loop-child.child-index c.child-item.result c.loop-child-test.true c.child-item.is in
    let started = ap nodes_in c.add_branch.ensures ∙ nodes-branch (length c.args.branch.now.bytes) (shape_as c.args.shape.now) in
    let room = c.requires in
    let falls = c.decreases in (
      omega arith,
      (
        within,
        (
          omega arith,
          shape-room (shape_as c.add_branch.new.self) (shape_as c.loop-child.shape) kids c.loop-child.child-index c.child-item.result
              (2 ^ 128) c.loop-child-test.true c.child-item.is c.loop-child.invariant (omega arith),
        ),
      ),
    )

pub shape::count_branch-loop-child-preserved : goal.shape::count_branch-loop-child-preserved
shape::count_branch-loop-child-preserved g t c =
    shape-more (shape_as c.add_branch.new.self) (shape_as c.loop-child.shape) (shape_as c.count_into.new.shape) c.deref-child-items.result.now c.loop-child.child-index c.child-item.result
    c.loop-child-test.true c.child-item.is c.loop-child.invariant c.count_into.ensures

pub shape::count_branch-returns : goal.shape::count_branch-returns
shape::count_branch-returns g t c =
    let branch = c.args.branch.now in
    c.loop-child.invariant
    ∙ ap (λ k. plus (shape_as c.add_branch.new.self) (shape_in (forms_in k))) (take_all c.loop-child.child-index c.deref-child-items.result.now c.loop-child-test.false ∙
    c.deref-child-items.ensures.value)
    ∙ ap (λ s. plus s (shape_in (forms_in branch.children.items))) c.add_branch.ensures
    ∙ branch-first (length branch.bytes) (shape_as c.args.shape.now) (shape_in (forms_in branch.children.items))
