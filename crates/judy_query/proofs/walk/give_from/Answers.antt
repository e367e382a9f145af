use Rattle.std.proofs.Common.{◌≡◌, ℕ, suc, ◌+◌, ◌-◌, ◌*◌, ◌^◌, ◌<◌, List, [], ◌++◌, length, sym, ap, ◌∙◌, subst, arith}
use borrow.Rule.Slice.PartMut.{put_mid, put_same}
use Rattle.judy_model.specs.WordBytes.{number_of}
use Rattle.judy_model.proofs.lemmas.orders.ByteLemmas.{unit_pos}
use Rattle.judy_bits.specs.ByteSets.{rank}
use Rattle.judy_leaf.specs.KeyLists.{shift}
use Rattle.judy_leaf.proofs.NextKeys.{rank_behind}
use Rattle.judy_node.specs.Trees.{Pairs}
use Rattle.judy_node.proofs.Maps.{length-shift}
use Rattle.judy_node.specs.Views.{view_pairs}
use Rattle.judy_query.specs.Givings.{AreGiven}
use Rattle.judy_query.specs.Parts.{IsStart}
use Rattle.judy_query.specs.Walks.{rest_of_turn, waiting, AreTurns}
use Rattle.judy_query.proofs.BranchRooms.{bytes_ascend}
use Rattle.judy_query.proofs.Downs.{kid_is, start_room}
use Rattle.judy_query.proofs.Splits.{rest_of}
use Rattle.judy_query.proofs.GivingFacts.{given_with, put_more, more_some, whole_some}
use Rattle.judy_query.proofs.WalkFacts.{entered_of, entered_width, entered_shown, entered_some, entered_fits, entered_pairs}
use Rattle.judy_query.proofs.walk.give_from.Goals as goal

pub overflow_add-start : goal.overflow_add-start
overflow_add-start g c =
    let turn = c.args.turn in
    let b = turn.branch.now in
    let inside : c.loop-count.place < length b.children.items = omega (arith, b.children.ok.0, c.len.ensures, c.if-place-len.true) in
    let start : IsStart (256 ^ b.width) (number_of b.skip * 256) b.bytes c.loop-count.place c.start_at.result = (c.byte_from-byte.result, c.byte_from-byte.ensures, c.start_at.ensures) in
    let room = start_room g.V.Words.WORDS b.width b.skip b.bytes b.children.items b.population c.loop-count.place c.start_at.result c.requires.turn.branch inside start in
    let fits = c.requires.turn.fits in
    let some = unit_pos b.width in
    omega arith

pub enter-view-requires : goal.enter-view-requires
enter-view-requires g c =
    let turn = c.args.turn in
    let b = turn.branch.now in
    let inside : c.loop-count.place < length b.children.items = omega (arith, b.children.ok.0, c.len.ensures, c.if-place-len.true) in
    let within = c.loop-count.invariant.given.within in
    let visits = c.loop-count.invariant.visits in (
      omega arith,
      (
        omega (arith, c.requires.below),
        kid_is g.V.Words.WORDS b.width b.skip b.bytes b.children.items b.population c.requires.turn.branch 0 c.loop-count.place c.index.result.now inside c.index.ensures,
      ),
    )

pub give_whole-requires-clause-fits : goal.give_whole-requires-clause-fits
give_whole-requires-clause-fits g c =
    let turn = c.args.turn in
    let b = turn.branch.now in
    let inside : c.loop-count.place < length b.children.items = omega (arith, b.children.ok.0, c.len.ensures, c.if-place-len.true) in
    let entered = entered_of c.requires.turn.branch inside c.byte_from-byte.ensures c.start_at.ensures c.index.ensures c.enter-view.ensures.view in
    entered_fits entered turn.base c.requires.turn.fits

pub keep-requires : goal.keep-requires
keep-requires g c =
    let words = g.V.Words.WORDS in
    let turn = c.args.turn in
    let b = turn.branch.now in
    let place = c.loop-count.place in
    let from : place + 1 ≡ rank b.bytes (c.from-edge.result + 1) = sym (ap (λ n. rank b.bytes (n + 1)) c.from-edge.ensures
    ∙ rank_behind b.bytes place c.byte_from-byte.result (bytes_ascend words b.width b.skip b.bytes b.children.items b.population c.requires.turn.branch) c.byte_from-byte.ensures) in
    let same = ap length c.loop-count.invariant.turns in
    (omega arith, (c.requires.turn.branch, (from, (c.requires.turn.fits, (subst (AreTurns words 0) (sym c.loop-count.invariant.turns) c.requires.turns, omega (arith, c.requires.room))))))

pub first_of-stretch-requires : goal.first_of-stretch-requires
first_of-stretch-requires g c =
    let turn = c.args.turn in
    let b = turn.branch.now in
    let inside : c.loop-count.place < length b.children.items = omega (arith, b.children.ok.0, c.len.ensures, c.if-place-len.true) in
    let entered = entered_of c.requires.turn.branch inside c.byte_from-byte.ensures c.start_at.ensures c.index.ensures c.enter-view.ensures.view in
    let wide = entered_width entered in
    let one = c.keep.ensures.one in
    let room = c.requires.room in
    let same = ap length c.loop-count.invariant.turns in
    let within = c.loop-count.invariant.given.within in
    let so_far = c.loop-count.invariant.visits in
    let shown = entered_shown entered in
    let fits = entered_fits entered turn.base c.requires.turn.fits in
    let some = entered_some entered in
    (omega arith, (shown, (fits, (some, (c.keep.ensures.turns, (omega arith, omega (arith, c.requires.below, c.enter-view.ensures.visits)))))))

pub returns-in_default-clause-given : goal.returns-in_default-clause-given
returns-in_default-clause-given g c =
    let turn = c.args.turn in
    let b = turn.branch.now in
    let place = c.loop-count.place in
    let inside : place < length b.children.items = omega (arith, b.children.ok.0, c.len.ensures, c.if-place-len.true) in
    let entered = entered_of c.requires.turn.branch inside c.byte_from-byte.ensures c.start_at.ensures c.index.ensures c.enter-view.ensures.view in
    let n = c.loop-count.count in
    let out = c.loop-count.out in
    let now = put_mid n (length out - n) out c.give_whole.new.out in
    let same : now ≡ out = ap (put_mid n (length out - n) out) c.in_default.ensures.given ∙ put_same n (length out - n) out in
    let long = ap length same in
    let room = c.loop-count-test.true in
    let made = g.E.FromPair.made in
    let rest : ℕ → Pairs = λ n. shift turn.base (rest_of (256 ^ b.width) (number_of b.skip * 256) b.bytes b.children.items n) in
    let others = waiting c.args.turns.now.items in
    let all : Pairs = rest turn.place ++ others in
    let left = waiting c.first_of-stretch.new.turns.items in
    let behind : place + 1 ≡ suc place = omega arith in
    let split = c.first_of-stretch.ensures.pairs
    ∙ ap (λ ps. shift (turn.base + c.start_at.result) (view_pairs c.enter-view.result) ++ ps) (c.keep.ensures.pairs ∙ (λ t. rest (behind t) ++ waiting (c.loop-count.invariant.turns t)))
    ∙ sym (entered_pairs entered turn.base others) in
    let mid : Pairs = c.first_of-stretch.result ++ left in
    let so_far = subst (λ (left : Pairs). AreGiven made all left c.args.out.now out n) (sym split) c.loop-count.invariant.given in
    let given = subst (λ (now : List _). AreGiven made all mid c.args.out.now now n) (sym same) so_far in
    put_more made all mid c.args.out.now now n given (omega arith) (c.fill-more.new.self ++ left) c.fill-more.new.out c.fill-more.result
    (given_with made c.first_of-stretch.result c.fill-more.new.self _ _ c.fill-more.result c.fill-more.ensures.given left)

pub returns-in_default-clause-visits : goal.returns-in_default-clause-visits
returns-in_default-clause-visits g c =
    let turn = c.args.turn in
    let b = turn.branch.now in
    let place = c.loop-count.place in
    let inside : place < length b.children.items = omega (arith, b.children.ok.0, c.len.ensures, c.if-place-len.true) in
    let entered = entered_of c.requires.turn.branch inside c.byte_from-byte.ensures c.start_at.ensures c.index.ensures c.enter-view.ensures.view in
    let n = c.loop-count.count in
    let out = c.loop-count.out in
    let now = put_mid n (length out - n) out c.give_whole.new.out in
    let same : now ≡ out = ap (put_mid n (length out - n) out) c.in_default.ensures.given ∙ put_same n (length out - n) out in
    let long = ap length same in
    let room = c.loop-count-test.true in
    let wide = entered_width entered in
    let more = more_some g.E.FromPair.made now n c.fill-more.result (length c.first_of-stretch.result) c.fill-more.ensures.most (omega arith) c.first_of-stretch.ensures.some in
    let so_far = c.loop-count.invariant.visits in
    let few = c.requires.room in
    let here = c.enter-view.ensures.visits in
    omega (arith, c.first_of-stretch.ensures.visits)

pub loop-count-preserved : goal.loop-count-preserved
loop-count-preserved g c =
    let words = g.V.Words.WORDS in
    let made = g.E.FromPair.made in
    let turn = c.args.turn in
    let b = turn.branch.now in
    let is = c.requires.turn.branch in
    let place = c.loop-count.place in
    let inside : place < length b.children.items = omega (arith, b.children.ok.0, c.len.ensures, c.if-place-len.true) in
    let entered = entered_of c.requires.turn.branch inside c.byte_from-byte.ensures c.start_at.ensures c.index.ensures c.enter-view.ensures.view in
    let from : place + 1 ≡ rank b.bytes (c.from-edge.result + 1) = sym (ap (λ n. rank b.bytes (n + 1)) c.from-edge.ensures
    ∙ rank_behind b.bytes place c.byte_from-byte.result (bytes_ascend words b.width b.skip b.bytes b.children.items b.population is) c.byte_from-byte.ensures) in
    let some = entered_some entered in
    let here = shift (turn.base + c.start_at.result) (view_pairs c.enter-view.result) in
    let long = length-shift (turn.base + c.start_at.result) (view_pairs c.enter-view.result) in
    let whole = whole_some made here _ _ c.in-Some.whole c.in-Some.ensures.given (omega arith) in
    let rest : ℕ → Pairs = λ n. shift turn.base (rest_of (256 ^ b.width) (number_of b.skip * 256) b.bytes b.children.items n) in
    let others = waiting c.args.turns.now.items in
    let all : Pairs = rest turn.place ++ others in
    let behind : suc place ≡ place + 1 = omega arith in
    let split = entered_pairs entered turn.base others
    ∙ ap (λ n. here ++ (rest n ++ others)) behind in
    let given = subst (λ (left : Pairs). AreGiven made all left c.args.out.now c.loop-count.out c.loop-count.count) split c.loop-count.invariant.given in
    let within = c.loop-count-test.true in
    let visits = c.enter-view.ensures.visits in
    let so_far = c.loop-count.invariant.visits in
    let no_fewer = c.loop-count.invariant.no_fewer in
    record {
      inside = omega arith;
      first = from;
      given =
          put_more made all (here ++ (rest (place + 1) ++ others)) c.args.out.now c.loop-count.out c.loop-count.count given (omega arith)
          (rest (place + 1) ++ others) c.give_whole.new.out c.in-Some.whole
          (given_with made here [] _ _ c.in-Some.whole c.in-Some.ensures.given (rest (place + 1) ++ others));
      visits = omega arith;
      no_fewer = omega arith;
      moved = λ (none : c.loop-count.count + c.in-Some.whole ≡ 0). absurd (omega arith);
      turns = c.loop-count.invariant.turns;
    }

pub keep-requires-2 : goal.keep-requires-2
keep-requires-2 g c =
    let same = ap length c.loop-count.invariant.turns in (
      omega arith,
      (
        c.requires.turn.branch,
        (c.loop-count.invariant.first, (c.requires.turn.fits, (subst (AreTurns g.V.Words.WORDS 0) (sym c.loop-count.invariant.turns) c.requires.turns, omega (arith, c.requires.room)))),
      ),
    )

pub returns-clause-given : goal.returns-clause-given
returns-clause-given g c =
    let b = c.args.turn.branch.now in
    let rest : Pairs = shift c.args.turn.base (rest_of (256 ^ b.width) (number_of b.skip * 256) b.bytes b.children.items c.loop-count.place) in
    subst (λ (left : Pairs). AreGiven g.E.FromPair.made (rest_of_turn c.args.turn ++ waiting c.args.turns.now.items) left c.args.out.now c.loop-count.out c.loop-count.count)
    (ap (λ turns. rest ++ waiting turns) (sym c.loop-count.invariant.turns) ∙ sym c.keep-2.ensures.pairs ∙ ap (λ ps. ps ++ waiting c.keep-2.new.turns.items) (sym c.new.ensures))
    c.loop-count.invariant.given
