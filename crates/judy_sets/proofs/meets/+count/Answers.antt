use Rattle.std.proofs.Common.{◌+◌, ◌*◌, ◌^◌, ◌<◌, ◌≤◌, not, cond, length, sym, ap, ◌∙◌, subst, arith, eqb-true}
use Rattle.std.proofs.Math.Nat.{pow-le-pow_right}
use Rattle.judy_model.specs.WordBytes.{number_of}
use Rattle.judy_model.proofs.lemmas.orders.ByteLemmas.{unit_pos}
use Rattle.judy_bits.specs.ByteSets.{rank}
use Rattle.judy_leaf.proofs.NextKeys.{rank_behind}
use Rattle.judy_node.specs.Trees.{branch_pairs}
use Rattle.judy_node.specs.Views.{view_pairs}
use Rattle.judy_node.proofs.Counts.{branch_population}
use Rattle.judy_node.proofs.StepFacts.{rank_zero}
use Rattle.judy_query.specs.Parts.{IsStart, width_of}
use Rattle.judy_query.proofs.BranchRooms.{bytes_ascend}
use Rattle.judy_query.proofs.Downs.{kid_is, start_room}
use Rattle.judy_sets.specs.Meets.{found, IsCounted}
use Rattle.judy_sets.proofs.LotFacts.{lot_inside, shown_branch, part_shown, found_there, found_full, found_free, found_next, found_behind}
use Rattle.judy_sets.proofs.MeetFacts.{counted_as, found-most}
use Rattle.judy_sets.proofs.meets.+count.Goals as goal

-- ---- a node beside a branch

pub count_below-index-part-requires : goal.count_below-index-part-requires
count_below-index-part-requires g t c =
    let b = c.in-Branch.branch.now in
    let is = shown_branch g.V.Words.WORDS c.args.other.now c.in-Branch.branch c.in-Branch.is c.requires.other_shown in
    let inside = lot_inside g.V.Words.WORDS b.width 0 b.bytes b.children.items c.in-In.place c.in-In.ensures.0 is.parts.children c.in-In.ensures.2 in
    omega (arith, b.children.ok.0)

pub count_below-returns-then-is_full : goal.count_below-returns-then-is_full
count_below-returns-then-is_full g t c =
    let words = g.V.Words.WORDS in
    let wanted = c.args.sought.wanted in
    let pairs = c.args.child.now.pairs in
    let b = c.in-Branch.branch.now in
    let lot = c.in-In.ensures in
    let is = shown_branch words c.args.other.now c.in-Branch.branch c.in-Branch.is c.requires.other_shown in
    let inside = lot_inside words b.width 0 b.bytes b.children.items c.in-In.place lot.0 is.parts.children lot.2 in
    let kid = c.index-part.result.now in
    let child = kid_is words b.width b.skip b.bytes b.children.items b.population is 0 c.in-In.place kid inside c.index-part.ensures in
    let full = eqb-true (length kid.pairs) (256 ^ b.width) (sym c.is_full.ensures ∙ c.if-is_full.true) in
    counted_as c.args.sought.enough (found wanted c.args.by pairs (view_pairs c.args.other.now)) c.all_if.result
    (c.all_if.ensures ∙ ap (λ n. cond wanted n 0) c.pop.ensures
    ∙ sym (ap (λ v. found wanted c.args.by pairs (view_pairs v)) c.in-Branch.is
    ∙ found_full words b.width b.skip b.bytes b.children.items b.population is c.args.by c.args.width lot.0 c.in-In.rest c.in-In.place kid lot.1 lot.2 inside c.index-part.ensures lot.3
    wanted pairs c.requires.child.map child.map full))

pub count_below-enter-view-requires : goal.count_below-enter-view-requires
count_below-enter-view-requires g t c =
    let words = g.V.Words.WORDS in
    let b = c.in-Branch.branch.now in
    let lot = c.in-In.ensures in
    let is = shown_branch words c.args.other.now c.in-Branch.branch c.in-Branch.is c.requires.other_shown in
    let inside = lot_inside words b.width 0 b.bytes b.children.items c.in-In.place lot.0 is.parts.children lot.2 in
    (omega arith, (omega arith, kid_is words b.width b.skip b.bytes b.children.items b.population is 0 c.in-In.place c.index-part.result.now inside c.index-part.ensures))

pub count_below-count_below-requires : goal.count_below-count_below-requires
count_below-count_below-requires g t c κs within =
    let words = g.V.Words.WORDS in
    let b = c.in-Branch.branch.now in
    let lot = c.in-In.ensures in
    let is = shown_branch words c.args.other.now c.in-Branch.branch c.in-Branch.is c.requires.other_shown in
    let inside = lot_inside words b.width 0 b.bytes b.children.items c.in-In.place lot.0 is.parts.children lot.2 in
    let kid = c.index-part.result.now in
    let child = kid_is words b.width b.skip b.bytes b.children.items b.population is 0 c.in-In.place kid inside c.index-part.ensures in
    let part = part_shown words b.width kid c.enter-view.result child c.enter-view.ensures.view in
    let wide = part.0 in
    let above = ap width_of c.in-Branch.is in
    let falls = c.decreases in
    let room = lot.3 in
    (omega arith, (within, (omega arith, (c.requires.child, (c.requires.narrow, (part.1, subst (λ w. c.in-In.rest + 256 ^ c.args.width ≤ 256 ^ w) (sym wide) room))))))

pub count_below-returns-else-is_full : goal.count_below-returns-else-is_full
count_below-returns-else-is_full g t c =
    let words = g.V.Words.WORDS in
    let wanted = c.args.sought.wanted in
    let pairs = c.args.child.now.pairs in
    let b = c.in-Branch.branch.now in
    let lot = c.in-In.ensures in
    let is = shown_branch words c.args.other.now c.in-Branch.branch c.in-Branch.is c.requires.other_shown in
    let inside = lot_inside words b.width 0 b.bytes b.children.items c.in-In.place lot.0 is.parts.children lot.2 in
    subst (λ n. IsCounted c.args.sought.enough n c.count_below.result)
    (sym (ap (λ v. found wanted c.args.by pairs (view_pairs v)) c.in-Branch.is
    ∙ found_there words b.width b.skip b.bytes b.children.items b.population is c.args.by c.args.width lot.0 c.in-In.rest c.in-In.place c.index-part.result.now lot.1 lot.2 inside
    c.index-part.ensures lot.3 wanted pairs c.requires.child.map
    ∙ ap (found wanted c.in-In.rest pairs) c.enter-view.ensures.view.pairs))
    c.count_below.ensures

pub count_below-returns-in-Free : goal.count_below-returns-in-Free
count_below-returns-in-Free g t c =
    let words = g.V.Words.WORDS in
    let wanted = c.args.sought.wanted in
    let pairs = c.args.child.now.pairs in
    let b = c.in-Branch.branch.now in
    let is = shown_branch words c.args.other.now c.in-Branch.branch c.in-Branch.is c.requires.other_shown in
    counted_as c.args.sought.enough (found wanted c.args.by pairs (view_pairs c.args.other.now)) c.all_if-in-Free.result
    (c.all_if-in-Free.ensures ∙ ap (λ n. cond (not wanted) n 0) c.pop-in-Free.ensures
    ∙ sym (ap (λ v. found wanted c.args.by pairs (view_pairs v)) c.in-Branch.is
    ∙ found_free words b.width b.skip b.bytes b.children.items b.population is c.args.by c.args.width wanted pairs c.requires.child.map c.in-Free.ensures))

-- ---- the children of a branch

pub count_children-children-init : goal.count_children-children-init
count_children-children-init g t c = record {
  inside = omega arith;
  first = sym (rank_zero c.args.branch.now.bytes);
  most = omega arith;
  exact = λ _. omega arith;
}

pub count_children-overflow_add-start : goal.count_children-overflow_add-start
count_children-overflow_add-start g t c =
    let b = c.args.branch.now in
    let inside : c.children.place < length b.children.items = omega (arith, b.children.ok.0, c.len.ensures, c.children-test.true) in
    let start : IsStart (256 ^ b.width) (number_of b.skip * 256) b.bytes c.children.place c.start_at.result = (c.byte_from-byte.result, c.byte_from-byte.ensures, c.start_at.ensures) in
    let room = start_room g.V.Words.WORDS b.width b.skip b.bytes b.children.items b.population c.children.place c.start_at.result c.requires.level inside start in
    let most : 256 ^ width_of c.args.other.now ≤ 256 ^ 8 = pow-le-pow_right {n = 256} (omega arith) c.requires.other_shown.narrow in
    let some = unit_pos b.width in
    let fits = c.requires.fits in
    omega arith

pub count_children-count_below-count-requires : goal.count_children-count_below-count-requires
count_children-count_below-count-requires g t c κs within =
    let words = g.V.Words.WORDS in
    let b = c.args.branch.now in
    let inside : c.children.place < length b.children.items = omega (arith, b.children.ok.0, c.len.ensures, c.children-test.true) in
    let start : IsStart (256 ^ b.width) (number_of b.skip * 256) b.bytes c.children.place c.start_at.result = (c.byte_from-byte.result, c.byte_from-byte.ensures, c.start_at.ensures) in
    let room = start_room words b.width b.skip b.bytes b.children.items b.population c.children.place c.start_at.result c.requires.level inside start in
    let child = kid_is words b.width b.skip b.bytes b.children.items b.population c.requires.level 0 c.children.place c.index.result.now inside c.index.ensures in
    let falls = c.decreases in
    let narrow = c.requires.level.parts.within in
    let other = c.requires.other_shown.narrow in
    let fits = c.requires.fits in
    (omega arith, (within, (omega arith, (child, (omega arith, (c.requires.other_shown, omega arith))))))

pub count_children-overflow_add-count : goal.count_children-overflow_add-count
count_children-overflow_add-count g t c =
    let words = g.V.Words.WORDS in
    let wanted = c.args.sought.wanted in
    let other = view_pairs c.args.other.now in
    let b = c.args.branch.now in
    let inside : c.children.place < length b.children.items = omega (arith, b.children.ok.0, c.len.ensures, c.children-test.true) in
    let next = found_next wanted c.args.by (256 ^ b.width) (number_of b.skip * 256) b.bytes b.children.items c.byte_from-byte.result c.children.place (c.args.by + c.start_at.result)
    c.index.result.now other c.byte_from-byte.ensures inside c.index.ensures (ap (λ n. c.args.by + n) c.start_at.ensures) in
    let here = c.count_below-count.ensures.most in
    let so_far = c.children.invariant.most in
    let most = found-most wanted c.args.by (branch_pairs b.width b.skip b.bytes b.children.items) other in
    let counted = c.requires.level.parts.counted in
    let keys = c.keys-most.ensures in
    let all = branch_population words b.width b.skip b.bytes b.children.items b.population c.requires.level in
    omega arith

pub count_children-children-preserved : goal.count_children-children-preserved
count_children-children-preserved g t c =
    let words = g.V.Words.WORDS in
    let wanted = c.args.sought.wanted in
    let other = view_pairs c.args.other.now in
    let b = c.args.branch.now in
    let place = c.children.place in
    let inside : place < length b.children.items = omega (arith, b.children.ok.0, c.len.ensures, c.children-test.true) in
    let next = found_next wanted c.args.by (256 ^ b.width) (number_of b.skip * 256) b.bytes b.children.items c.byte_from-byte.result place (c.args.by + c.start_at.result) c.index.result.now other
    c.byte_from-byte.ensures inside c.index.ensures (ap (λ n. c.args.by + n) c.start_at.ensures) in
    let here = c.count_below-count.ensures in
    let most = here.most in
    let so_far = c.children.invariant.most in
    record {
      inside = omega arith;
      first = sym (ap (λ n. rank b.bytes (n + 1)) c.from-edge.ensures
          ∙ rank_behind b.bytes place c.byte_from-byte.result (bytes_ascend words b.width b.skip b.bytes b.children.items b.population c.requires.level) c.byte_from-byte.ensures);
      most = omega arith;
      exact = λ few.
          let before = c.children.invariant.exact (omega arith) in
          let now = here.exact (omega arith) in
          omega arith;
    }

pub count_children-returns : goal.count_children-returns
count_children-returns g t c =
    let b = c.args.branch.now in
    let past : length b.children.items ≤ c.children.place = omega (arith, b.children.ok.0, c.len.ensures, c.children-test.false) in
    let none = found_behind c.args.sought.wanted g.V.Words.WORDS b.width c.args.by 0 (256 ^ b.width) (number_of b.skip * 256) b.bytes b.children.items c.children.place (view_pairs c.args.other.now)
    c.requires.level.parts.children past in
    let most = c.children.invariant.most in
    record { most = omega arith; exact = λ few. let same = c.children.invariant.exact few in omega arith }
