use Rattle.std.proofs.Common.{◌≡◌, suc, ◌+◌, ◌*◌, ◌^◌, ◌++◌, sym, ap, ◌∙◌, arith}
use Rattle.judy_model.specs.WordBytes.{number_of}
use Rattle.judy_model.proofs.lemmas.orders.ByteLemmas.{unit_pos}
use Rattle.judy_bits.specs.ByteSets.{rank}
use Rattle.judy_leaf.specs.KeyLists.{shift}
use Rattle.judy_node.specs.Views.{view_pairs}
use Rattle.judy_query.specs.Parts.{IsStart}
use Rattle.judy_query.specs.Walks.{waiting}
use Rattle.judy_query.proofs.BranchRooms.{bytes_ascend}
use Rattle.judy_leaf.proofs.NextKeys.{rank_behind}
use Rattle.judy_query.proofs.Downs.{kid_is, start_room}
use Rattle.judy_query.proofs.Splits.{rest_of}
use Rattle.judy_query.proofs.WalkFacts.{entered_of, entered_width, entered_shown, entered_some, entered_fits, entered_pairs}
use Rattle.judy_query.proofs.walk.enter_child.Goals as goal

pub enter-view-requires : goal.enter-view-requires
enter-view-requires g c =
    let turn = c.args.turn in
    let b = turn.branch.now in (
      omega arith,
      (
        omega (arith, c.requires.below),
        kid_is g.V.Words.WORDS b.width b.skip b.bytes b.children.items b.population c.requires.turn.branch 0 turn.place c.index.result.now c.requires.turn.inside c.index.ensures,
      ),
    )

pub keep-requires : goal.keep-requires
keep-requires g c =
    let turn = c.args.turn in
    let b = turn.branch.now in
    let from : turn.place + 1 ≡ rank b.bytes (c.from.result + 1) = sym (ap (λ n. rank b.bytes (n + 1)) c.from.ensures
    ∙ rank_behind b.bytes turn.place c.byte_from-byte.result (bytes_ascend g.V.Words.WORDS b.width b.skip b.bytes b.children.items b.population c.requires.turn.branch) c.byte_from-byte.ensures) in
    (omega arith, (c.requires.turn.branch, (from, (c.requires.turn.fits, (c.requires.turns, c.requires.room)))))

pub start_at-requires-clause-byte : goal.start_at-requires-clause-byte
start_at-requires-clause-byte g c = (c.args.turn.place, c.requires.turn.inside, c.byte_from-byte.ensures)

pub overflow_add-result : goal.overflow_add-result
overflow_add-result g c =
    let turn = c.args.turn in
    let b = turn.branch.now in
    let start : IsStart (256 ^ b.width) (number_of b.skip * 256) b.bytes turn.place c.start_at.result = (c.byte_from-byte.result, c.byte_from-byte.ensures, c.start_at.ensures) in
    let room = start_room g.V.Words.WORDS b.width b.skip b.bytes b.children.items b.population turn.place c.start_at.result c.requires.turn.branch c.requires.turn.inside start in
    let fits = c.requires.turn.fits in
    let some = unit_pos b.width in
    omega arith

pub returns : goal.returns
returns g c =
    let turn = c.args.turn in
    let b = turn.branch.now in
    let entered = entered_of c.requires.turn.branch c.requires.turn.inside c.byte_from-byte.ensures c.start_at.ensures c.index.ensures c.enter-view.ensures.view in
    let wide = entered_width entered in
    let one = c.keep.ensures.one in
    let room = c.requires.room in
    let others = waiting c.args.turns.now.items in
    let behind : c.args.turn.place + 1 ≡ suc c.args.turn.place = omega arith in
    record {
      shown = entered_shown entered;
      fits = entered_fits entered turn.base c.requires.turn.fits;
      some = entered_some entered;
      turns = c.keep.ensures.turns;
      room = omega arith;
      low = omega arith;
      pairs = ap (λ ps. shift (turn.base + c.start_at.result) (view_pairs c.enter-view.result) ++ ps)
          (c.keep.ensures.pairs ∙ ap (λ n. shift turn.base (rest_of (256 ^ b.width) (number_of b.skip * 256) b.bytes b.children.items n) ++ others) behind)
          ∙ sym (entered_pairs entered turn.base others);
      visits = c.enter-view.ensures.visits;
    }
