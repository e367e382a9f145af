use Rattle.std.proofs.Common.{◌≡◌, ℕ, suc, ◌-◌, ◌*◌, ◌^◌, [], ◌++◌, length, drop, sym, ap, ◌∙◌, subst, arith}
use Rattle.judy_model.specs.WordBytes.{number_of}
use Rattle.judy_bits.specs.ByteSets.{rank}
use Rattle.judy_bits.proofs.FewLemmas.{rank-le}
use Rattle.judy_leaf.specs.KeyLists.{shift, keys_of}
use Rattle.judy_node.specs.Trees.{Pairs}
use Rattle.judy_node.specs.Views.{view_pairs}
use Rattle.judy_node.proofs.Maps.{length-keys_of}
use Rattle.judy_query.specs.Parts.{IsDown, width_of, passed, reached}
use Rattle.judy_query.specs.Walks.{waiting, AreTurns}
use Rattle.judy_query.proofs.Downs.{end_is, down_branch, down_root, down_child, down_gap, child_inside, child_is, beside_is, branch_is, passed_few, beside_reached}
use Rattle.judy_query.proofs.LaterFacts.{reached_rank}
use Rattle.judy_query.proofs.Splits.{rest_of}
use Rattle.judy_query.proofs.WalkFacts.{part-rest}
use Rattle.judy_query.proofs.walk.seek.Goals as goal

pub down-init : goal.down-init
down-init g c =
    let down = down_root g.V.Words.WORDS c.args.tree.now c.enter-view.result c.args.key c.law.ensures c.enter-view.ensures.view (omega (arith, c.ranges.key)) in
    let narrow = down.shown.narrow in
    let none = ap length c.requires.none in
    (down, sym (ap waiting c.requires.none), subst (AreTurns g.V.Words.WORDS 0) (sym c.requires.none) tt, omega arith, omega arith, omega arith)

pub reached-requires : goal.reached-requires
reached-requires g c =
    let words = g.V.Words.WORDS in
    let b = c.in-Branch.branch.now in
    let down = down_branch c.down.invariant.0 c.in-Branch.is in
    passed_few words b.width b.skip b.bytes b.children.items b.population c.down.left c.step-step.result (branch_is down) c.step-step.ensures

pub keep-requires : goal.keep-requires
keep-requires g c =
    let words = g.V.Words.WORDS in
    let b = c.in-Branch.branch.now in
    let down = down_branch c.down.invariant.0 c.in-Branch.is in
    let is = branch_is down in
    let from = c.reached.ensures ∙ reached_rank words b.width b.skip b.bytes b.children.items b.population is c.down.left c.step-step.result c.step-step.ensures ∙
    ap (rank b.bytes) (sym c.byte_behind.ensures) in
    let here = ap width_of c.in-Branch.is in
    let room = c.down.invariant.3 in
    (omega arith, (is, (from, (down.part.fits, (c.down.invariant.2, omega arith)))))

pub returns-in_default-step : goal.returns-in_default-step
returns-in_default-step g c =
    let words = g.V.Words.WORDS in
    let pairs = c.args.tree.now.pairs in
    let b = c.in-Branch.branch.now in
    let base = c.args.key - c.down.left in
    let way = subst (λ v. (down : IsDown words pairs v c.args.key c.down.left) × (down.back ≡ waiting c.down.turns.items)) c.in-Branch.is (c.down.invariant.0, c.down.invariant.1) in
    let beside = beside_is c.step-step.result c.in_default-step.not-Child in
    let part = down_gap way.0 c.step-step.result beside c.step-step.ensures in
    let place : c.reached.result ≡ passed (length b.children.items) c.step-step.result = c.reached.ensures ∙ beside_reached (length b.children.items) c.step-step.result beside in
    let some = c.down.invariant.0.shown.some in
    record {
      turns = c.keep.ensures.turns;
      pairs = ap (λ ps. ps ++ waiting c.keep.new.turns.items) c.new.ensures
          ∙ c.keep.ensures.pairs
          ∙ (λ t. shift base (rest_of (256 ^ b.width) (number_of b.skip * 256) b.bytes b.children.items (place t)) ++ sym way.1 t)
          ∙ sym (part-rest words (256 ^ 8) pairs c.args.key 1 0 c.args.key [] _ _ part (omega arith) (omega arith));
      no_fewer = omega (arith, c.down.invariant.5, c.enter-view.ensures.visits);
      visits = omega (arith, c.down.invariant.4);
    }

pub index-requires : goal.index-requires
index-requires g c =
    let down = down_branch c.down.invariant.0 c.in-Branch.is in
    let inside = child_inside down c.in-Child.field-0 c.in-Child.place c.in-Child.rest c.in-Child.ensures in
    omega (arith, c.in-Branch.branch.now.children.ok.0)

pub enter-view-requires-in-Branch : goal.enter-view-requires-in-Branch
enter-view-requires-in-Branch g c =
    let down = down_branch c.down.invariant.0 c.in-Branch.is in
    (omega arith, (omega (arith, c.down.invariant.4, c.requires.below), child_is down c.in-Child.field-0 c.in-Child.place c.in-Child.rest c.in-Child.ensures c.index.ensures))

pub down-smaller : goal.down-smaller
down-smaller g c =
    let down = down_branch c.down.invariant.0 c.in-Branch.is in
    let next = down_child down c.in-Child.field-0 c.in-Child.place c.in-Child.rest c.in-Child.ensures c.index.ensures c.enter-view-in-Branch.ensures.view in
    omega (arith, ap width_of c.in-Branch.is, next.width_is)

pub down-preserved : goal.down-preserved
down-preserved g c =
    let words = g.V.Words.WORDS in
    let pairs = c.args.tree.now.pairs in
    let b = c.in-Branch.branch.now in
    let base = c.args.key - c.down.left in
    let rest : ℕ → Pairs = λ n. shift base (rest_of (256 ^ b.width) (number_of b.skip * 256) b.bytes b.children.items n) in
    let way = subst (λ v. (down : IsDown words pairs v c.args.key c.down.left) × (down.back ≡ waiting c.down.turns.items)) c.in-Branch.is (c.down.invariant.0, c.down.invariant.1) in
    let next = down_child way.0 c.in-Child.field-0 c.in-Child.place c.in-Child.rest c.in-Child.ensures c.index.ensures c.enter-view-in-Branch.ensures.view in
    let place : c.reached.result ≡ suc c.in-Child.place = c.reached.ensures ∙ ap (reached (length b.children.items)) c.in-Child.is in
    let here = ap width_of c.in-Branch.is in
    let less = next.width_is in
    let one = c.keep.ensures.one in
    let room = c.down.invariant.3 in
    let visits = c.enter-view-in-Branch.ensures.visits in
    let so_far = c.down.invariant.4 in (
      next.down,
      next.back_is ∙ (λ t. rest (sym place t) ++ way.1 t) ∙ sym c.keep.ensures.pairs,
      c.keep.ensures.turns,
      omega arith,
      omega arith,
      omega (arith, visits, c.down.invariant.5),
    )

pub new-requires-2 : goal.new-requires-2
new-requires-2 g c =
    let down = c.down.invariant.0 in
    let few = rank-le (keys_of (view_pairs c.down.view)) c.down.left in
    let long = length-keys_of (view_pairs c.down.view) in
    let at = c.rank_in-at.ensures in
    record {
      end = end_is c.down.view c.in_default.not-Branch;
      shown = down.shown;
      fits = down.part.fits;
      within = omega arith;
    }

pub returns : goal.returns
returns g c =
    let words = g.V.Words.WORDS in
    let pairs = c.args.tree.now.pairs in
    let base = c.args.key - c.down.left in
    let down = c.down.invariant.0 in
    let above = down.above in
    let here = view_pairs c.down.view in
    let some = down.shown.some in
    record {
      turns = c.down.invariant.2;
      pairs = (λ t. (c.new-2.ensures ∙ ap (λ n. shift base (drop n here)) c.rank_in-at.ensures) t ++ sym c.down.invariant.1 t)
          ∙ sym (part-rest words (256 ^ 8) pairs base (256 ^ width_of c.down.view) c.down.left c.args.key here down.front down.back down.part (omega arith) (let inside = down.inside in omega arith));
      no_fewer = omega (arith, c.down.invariant.5, c.enter-view.ensures.visits);
      visits = omega (arith, c.down.invariant.4);
    }
