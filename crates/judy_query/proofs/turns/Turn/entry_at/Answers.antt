use Rattle.std.proofs.Common.{◌+◌, ◌^◌, ◌<◌, length, slice_get, ap, ◌∙◌, subst, arith}
use Rattle.judy_model.proofs.lemmas.orders.ByteLemmas.{unit_pos}
use Rattle.judy_node.specs.Views.{view_pairs}
use Rattle.judy_query.specs.Parts.{raised}
use Rattle.judy_query.proofs.Downs.{kid_is, start_room}
use Rattle.judy_query.proofs.TurnFacts.{turn_is, turn_long}
use Rattle.judy_query.proofs.RankFacts.{at-shift, at_below}
use Rattle.judy_query.proofs.turns.Turn.entry_at.Goals as goal

pub enter-view-requires : goal.enter-view-requires
enter-view-requires g c =
    let turn = c.args.self.now in
    let b = turn.branch.now in (
      omega arith,
      (
        omega (arith, c.requires.room),
        kid_is g.V.Words.WORDS b.width b.skip b.bytes b.children.items b.population c.requires.turn.branch 0 turn.place c.index.result.now c.requires.turn.inside c.index.ensures,
      ),
    )

pub overflow_add-base : goal.overflow_add-base
overflow_add-base g c =
    let turn = c.args.self.now in
    let b = turn.branch.now in
    let room = start_room g.V.Words.WORDS b.width b.skip b.bytes b.children.items b.population turn.place c.args.start c.requires.turn.branch c.requires.turn.inside c.requires.start in
    omega (arith, room, c.requires.turn.fits, unit_pos b.width)

pub entry_below-key-requires-clause-inside : goal.entry_below-key-requires-clause-inside
entry_below-key-requires-clause-inside g c =
    let turn = c.args.self.now in
    let b = turn.branch.now in
    let long = turn_long g.V.Words.WORDS b.width b.skip b.bytes b.children.items b.population c.requires.turn.branch turn.place turn.base c.index.result.now c.requires.turn.inside c.index.ensures in
    subst (λ n. c.args.place < n) (long ∙ ap length c.enter-view.ensures.view.pairs) c.requires.inside

pub overflow_add-result : goal.overflow_add-result
overflow_add-result g c =
    let turn = c.args.self.now in
    let b = turn.branch.now in
    let room = start_room g.V.Words.WORDS b.width b.skip b.bytes b.children.items b.population turn.place c.args.start c.requires.turn.branch c.requires.turn.inside c.requires.start in
    let below = at_below g.V.Words.WORDS 0 (256 ^ b.width) (view_pairs c.enter-view.result) c.args.place c.entry_below-key.result.0 c.entry_below-key.result.1
    c.enter-view.ensures.view.map c.entry_below-key.ensures.entry in
    omega (arith, room, below, c.requires.turn.fits)

pub returns-clause-entry : goal.returns-clause-entry
returns-clause-entry g c =
    let turn = c.args.self.now in
    let b = turn.branch.now in
    ap (λ ps. slice_get ps c.args.place) (turn_is g.V.Words.WORDS b.width b.skip b.bytes b.children.items b.population c.requires.turn.branch turn.place turn.base
    c.index.result.now c.requires.turn.inside c.index.ensures c.args.start c.requires.start)
    ∙ at-shift (turn.base + c.args.start) c.args.place c.index.result.now.pairs
    ∙ ap (raised (turn.base + c.args.start)) (ap (λ ps. slice_get ps c.args.place) c.enter-view.ensures.view.pairs ∙ c.entry_below-key.ensures.entry)
