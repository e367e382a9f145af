use Rattle.std.proofs.Common.{ℕ, ◌-◌, ◌^◌, ◌<◌, ◌≤◌, [], ap, subst, arith}
use Rattle.std.proofs.Math.Nat.{pow-le-pow_right}
use Rattle.judy_node.specs.Trees.{Pairs, branch_pairs}
use Rattle.judy_node.specs.declared.view.ViewOf.TheVariants.{Branch}
use Rattle.judy_node.specs.Views.{view_pairs}
use Rattle.judy_query.specs.Parts.{IsDown, IsShown, width_of}
use Rattle.judy_query.proofs.Parts.{whole_part}
use Rattle.judy_query.proofs.Downs.{end_is, down_child, down_gap, child_inside, child_is, beside_is}
use Rattle.judy_query.proofs.Finds.{part-value}
use Rattle.judy_query.proofs.AroundFacts.{down_value}
use Rattle.judy_query.proofs.values.end_of_way.Invariants.{shown}
use Rattle.judy_query.proofs.values.end_of_way.Goals as goal

module _ {V : _} (words : ℕ) (b : _) (key left : ℕ) where
  -- The way begins at the branch itself.
  down_top : IsShown {V = V} words (Branch b) → key < 256 ^ width_of (Branch b) → IsDown words (view_pairs (Branch b)) (shown b.now) key key
  down_top is inside =
      let wide = is.narrow in
      let most : 256 ^ width_of (Branch b) ≤ 256 ^ 8 = pow-le-pow_right {n = 256} (omega arith) wide in
      record {
        above = omega arith;
        inside = inside;
        shown = record { some = is.some; narrow = is.narrow; map = is.map; place = is.place };
        front = [];
        back = [];
        part = record { fits = omega arith; same = (whole_part words (256 ^ width_of (Branch b)) (key - key) (view_pairs (Branch b)) (omega arith) is.map).same; before = tt; after = tt };
      }

  -- A branch is the same wherever it stands.
  down_shown : (tree : Pairs) → IsDown {V = V} words tree (Branch b) key left → IsDown words tree (shown b.now) key left
  down_shown tree down = record {
    above = down.above;
    inside = down.inside;
    shown = record { some = down.shown.some; narrow = down.shown.narrow; map = down.shown.map; place = down.shown.place };
    front = down.front;
    back = down.back;
    part = down.part;
  }

pub down-init : goal.down-init
down-init g c = (down_top g.V.Words.WORDS c.args.top c.args.key c.args.key c.requires.shown c.requires.inside, omega arith, omega arith)

pub step-requires : goal.step-requires
step-requires g c = c.down.invariant.0.shown.place.1

pub returns-in_default : goal.returns-in_default
returns-in_default g c =
    let words = g.V.Words.WORDS in
    let top = c.args.top.now in
    let tree = branch_pairs top.width top.skip top.bytes top.children.items in
    let down = c.down.invariant.0 in
    let some = down.shown.some in
    let part = down_gap down c.step.result (beside_is c.step.result c.in_default.not-Child) c.step.ensures in
    record {
      value = part-value words (256 ^ 8) tree c.args.key 1 0 c.args.key [] _ _ part (omega arith) (omega arith);
      end = tt;
      no_fewer = c.down.invariant.2;
      visits = omega (arith, c.down.invariant.1);
    }

pub index-requires : goal.index-requires
index-requires g c =
    let inside = child_inside c.down.invariant.0 c.in-Child.field-0 c.in-Child.place c.in-Child.rest c.in-Child.ensures in
    omega (arith, c.down.branch.now.children.ok.0)

pub enter-requires : goal.enter-requires
enter-requires g c =
    let some = c.down.invariant.0.shown.some in
    let top_narrow = c.requires.shown.narrow in
    (omega arith, (omega (arith, c.down.invariant.1, c.requires.below), child_is c.down.invariant.0 c.in-Child.field-0 c.in-Child.place c.in-Child.rest c.in-Child.ensures c.index.ensures))

pub down-smaller : goal.down-smaller
down-smaller g c =
    let next = down_child c.down.invariant.0 c.in-Child.field-0 c.in-Child.place c.in-Child.rest c.in-Child.ensures c.index.ensures c.enter.ensures.view in
    omega (arith, ap width_of c.in-Branch.is, next.width_is)

pub down-preserved : goal.down-preserved
down-preserved g c =
    let words = g.V.Words.WORDS in
    let top = c.args.top.now in
    let tree = branch_pairs top.width top.skip top.bytes top.children.items in
    let next = down_child c.down.invariant.0 c.in-Child.field-0 c.in-Child.place c.in-Child.rest c.in-Child.ensures c.index.ensures c.enter.ensures.view in
    let here = ap width_of c.in-Branch.is in
    let less = next.width_is in
    let visits = c.enter.ensures.visits in
    let so_far = c.down.invariant.1 in (
      down_shown words c.in-Branch.next c.args.key c.in-Child.rest tree (subst (λ v. IsDown words tree v c.args.key c.in-Child.rest) c.in-Branch.is next.down),
      omega arith,
      omega (arith, visits, c.down.invariant.2),
    )

pub returns-in_default-enter : goal.returns-in_default-enter
returns-in_default-enter g c =
    let words = g.V.Words.WORDS in
    let top = c.args.top.now in
    let tree = branch_pairs top.width top.skip top.bytes top.children.items in
    let next = down_child c.down.invariant.0 c.in-Child.field-0 c.in-Child.place c.in-Child.rest c.in-Child.ensures c.index.ensures c.enter.ensures.view in
    let some = next.down.shown.some in
    let visits = c.enter.ensures.visits in
    let so_far = c.down.invariant.1 in
    let less = next.width_is in
    record {
      value = down_value words tree c.enter.result c.args.key c.in-Child.rest next.down;
      end = (end_is c.enter.result c.in_default-enter.not-Branch, next.down.shown);
      no_fewer = omega (arith, c.down.invariant.2);
      visits = omega arith;
    }
