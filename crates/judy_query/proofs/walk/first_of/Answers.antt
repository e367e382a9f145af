use Rattle.std.proofs.Common.{◌≡◌, ◌+◌, ◌*◌, ◌^◌, ◌++◌, length, sym, ap, ◌∙◌, subst, arith}
use Rattle.judy_model.specs.WordBytes.{number_of}
use Rattle.judy_model.proofs.lemmas.orders.ByteLemmas.{unit_pos}
use Rattle.judy_bits.specs.ByteSets.{rank}
use Rattle.judy_leaf.specs.KeyLists.{shift}
use Rattle.judy_node.specs.Views.{view_pairs}
use Rattle.judy_node.proofs.Maps.{length-shift}
use Rattle.judy_node.proofs.StepFacts.{rank_zero}
use Rattle.judy_query.specs.Parts.{IsStart, width_of}
use Rattle.judy_query.specs.Walks.{waiting}
use Rattle.judy_query.proofs.BranchRooms.{bytes_ascend}
use Rattle.judy_leaf.proofs.NextKeys.{rank_behind}
use Rattle.judy_query.proofs.Downs.{start_room}
use Rattle.judy_query.proofs.WalkFacts.{IsWalked, first_inside, entered_of, entered_width, walked_child}
use Rattle.judy_query.proofs.walk.first_of.Goals as goal

pub byte_from-byte-requires-clause-from : goal.byte_from-byte-requires-clause-from
byte_from-byte-requires-clause-from g c = sym (rank_zero c.in-Branch.branch.now.bytes)

pub keep-requires : goal.keep-requires
keep-requires g c =
    let words = g.V.Words.WORDS in
    let b = c.in-Branch.branch.now in
    let all = shift c.args.start (view_pairs c.args.top) ++ waiting c.args.turns.now.items in
    let walked = subst (λ v. IsWalked words v c.down.base c.down.turns.items all) c.in-Branch.is c.down.invariant.0 in
    let is = walked.shown.place.1 in
    let from : 1 ≡ rank b.bytes (c.from.result + 1) = sym (ap (λ n. rank b.bytes (n + 1)) c.from.ensures
    ∙ rank_behind b.bytes 0 c.byte_from-byte.result (bytes_ascend words b.width b.skip b.bytes b.children.items b.population is) c.byte_from-byte.ensures) in
    let room = walked.room in
    (omega arith, (is, (from, (walked.fits, (walked.turns, omega arith)))))

pub byte_from-byte-requires-clause-place : goal.byte_from-byte-requires-clause-place
byte_from-byte-requires-clause-place g c =
    let words = g.V.Words.WORDS in
    let b = c.in-Branch.branch.now in
    let all = shift c.args.start (view_pairs c.args.top) ++ waiting c.args.turns.now.items in
    let walked = subst (λ v. IsWalked words v c.down.base c.down.turns.items all) c.in-Branch.is c.down.invariant.0 in
    let is = walked.shown.place.1 in
    first_inside words b.width b.skip b.bytes b.children.items b.population is

pub start_at-base-requires-clause-byte : goal.start_at-base-requires-clause-byte
start_at-base-requires-clause-byte g c =
    let words = g.V.Words.WORDS in
    let b = c.in-Branch.branch.now in
    let all = shift c.args.start (view_pairs c.args.top) ++ waiting c.args.turns.now.items in
    let walked = subst (λ v. IsWalked words v c.down.base c.down.turns.items all) c.in-Branch.is c.down.invariant.0 in
    let is = walked.shown.place.1 in
    (0, first_inside words b.width b.skip b.bytes b.children.items b.population is, c.byte_from-byte.ensures)

pub overflow_add-base : goal.overflow_add-base
overflow_add-base g c =
    let words = g.V.Words.WORDS in
    let b = c.in-Branch.branch.now in
    let start : IsStart (256 ^ b.width) (number_of b.skip * 256) b.bytes 0 c.start_at-base.result = (c.byte_from-byte.result, c.byte_from-byte.ensures, c.start_at-base.ensures) in
    let all = shift c.args.start (view_pairs c.args.top) ++ waiting c.args.turns.now.items in
    let walked = subst (λ v. IsWalked words v c.down.base c.down.turns.items all) c.in-Branch.is c.down.invariant.0 in
    let is = walked.shown.place.1 in
    let room = start_room words b.width b.skip b.bytes b.children.items b.population 0 c.start_at-base.result is (first_inside words b.width b.skip b.bytes b.children.items b.population is) start in
    let fits = walked.fits in
    let some = unit_pos b.width in
    omega arith

pub down-preserved : goal.down-preserved
down-preserved g c =
    let words = g.V.Words.WORDS in
    let b = c.in-Branch.branch.now in
    let start : IsStart (256 ^ b.width) (number_of b.skip * 256) b.bytes 0 c.start_at-base.result = (c.byte_from-byte.result, c.byte_from-byte.ensures, c.start_at-base.ensures) in
    let all = shift c.args.start (view_pairs c.args.top) ++ waiting c.args.turns.now.items in
    let walked = subst (λ v. IsWalked words v c.down.base c.down.turns.items all) c.in-Branch.is c.down.invariant.0 in
    let is = walked.shown.place.1 in
    let wide = entered_width (entered_of is (first_inside words b.width b.skip b.bytes b.children.items b.population is) c.byte_from-byte.ensures c.start_at-base.ensures
    c.index.ensures c.enter-view.ensures.view) in
    let here = ap width_of c.in-Branch.is in
    let visits = c.enter-view.ensures.visits in
    let so_far = c.down.invariant.1 in (
      walked_child words c.in-Branch.branch c.down.base c.down.turns.items all walked c.start_at-base.result start c.index.result.now c.index.ensures
          c.enter-view.result c.enter-view.ensures.view c.keep.new.turns.items c.keep.ensures.turns c.keep.ensures.pairs c.keep.ensures.one,
      omega arith,
      omega (arith, visits, c.down.invariant.2),
    )

pub returns : goal.returns
returns g c =
    let pairs = view_pairs c.down.view in
    let some = c.down.invariant.0.some in
    let long = ap length c.new.ensures ∙ length-shift c.down.base pairs in
    record {
      turns = c.down.invariant.0.turns;
      pairs = ap (λ ps. ps ++ waiting c.down.turns.items) c.new.ensures ∙ c.down.invariant.0.pairs;
      some = omega arith;
      no_fewer = c.down.invariant.2;
      visits = (let shown = c.down.invariant.0.shown.some in omega (arith, c.down.invariant.1));
    }
