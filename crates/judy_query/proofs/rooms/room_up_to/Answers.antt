use Rattle.std.proofs.Common.{◌≡◌, ◌+◌, ◌-◌, ◌*◌, ◌^◌, length, Some, sym, ap, ◌∙◌, subst, arith}
use Rattle.std.proofs.lemmas.Option.{slice_get-get_or}
use Rattle.judy_model.specs.WordBytes.{number_of}
use Rattle.judy_model.proofs.lemmas.orders.ByteLemmas.{unit_pos}
use Rattle.judy_bits.specs.ByteSets.{rank}
use Rattle.judy_leaf.specs.KeyLists.{shift}
use Rattle.judy_node.specs.Trees.{branch_pairs}
use Rattle.judy_query.specs.Rooms.{IsRun}
use Rattle.judy_query.proofs.Runs.{run-join}
use Rattle.judy_query.proofs.BranchRooms.{missing_before, missing_first, rank_before, previous, previous_run, first_small, not_full, all_full, bytes_ascend, as_many, word_fits}
use Rattle.judy_query.proofs.BranchRooms.{block_within, last_absent, before_absent, kid_room, kid_run}
use Rattle.judy_query.proofs.rooms.room_up_to.Goals as goal

pub overflow_sub-byte : goal.overflow_sub-byte
overflow_sub-byte g c = omega (arith, (previous c.args.end.branch.now.bytes c.loop-at.byte c.loop-at.at c.loop-at.invariant.1 (omega (arith, c.loop-at-test.true)) c.loop-at.invariant.0).byte_is)

pub start_of-start-requires-clause-within : goal.start_of-start-requires-clause-within
start_of-start-requires-clause-within g c =
    let b = c.args.end.branch.now in
    let back = previous b.bytes c.loop-at.byte c.loop-at.at c.loop-at.invariant.1 (omega (arith, c.loop-at-test.true)) c.loop-at.invariant.0 in
    word_fits g.V.Words.WORDS b.width b.skip b.bytes b.children.items b.population c.requires.branch c.args.end.base (c.loop-at.byte - 1) back.small c.requires.fits

pub byte_at-requires-clause-place : goal.byte_at-requires-clause-place
byte_at-requires-clause-place g c =
    let b = c.args.end.branch.now in
    let back = previous b.bytes c.loop-at.byte c.loop-at.at c.loop-at.invariant.1 (omega (arith, c.loop-at-test.true)) c.loop-at.invariant.0 in
    omega (arith, back.inside, as_many g.V.Words.WORDS b.width b.skip b.bytes b.children.items b.population c.requires.branch)

pub overflow_add-result : goal.overflow_add-result
overflow_add-result g c =
    let b = c.args.end.branch.now in
    let back = previous b.bytes c.loop-at.byte c.loop-at.at c.loop-at.invariant.1 (omega (arith, c.loop-at-test.true)) c.loop-at.invariant.0 in
    let fits = block_within g.V.Words.WORDS b.width b.skip b.bytes b.children.items b.population c.requires.branch (c.loop-at.byte - 1) back.small in
    omega (arith, c.start_of-start.ensures, c.last_word.ensures.value, unit_pos b.width, c.requires.fits)

pub returns-then-from-byte-clause-room : goal.returns-then-from-byte-clause-room
returns-then-from-byte-clause-room g c =
    let words = g.V.Words.WORDS in
    let b = c.args.end.branch.now in
    let n = c.loop-at.byte - 1 in
    let back = previous b.bytes c.loop-at.byte c.loop-at.at c.loop-at.invariant.1 (omega (arith, c.loop-at-test.true)) c.loop-at.invariant.0 in
    let all = shift c.args.end.base (branch_pairs b.width b.skip b.bytes b.children.items) in
    let end = c.args.end.base + (number_of b.skip * 256 + c.args.end.edge) * 256 ^ b.width in
    let run = previous_run all c.args.end.base (number_of b.skip * 256) c.loop-at.byte (256 ^ b.width) c.start_of-start.result end back.byte_is c.start_of-start.ensures c.loop-at.invariant.2 in
    let unit = unit_pos b.width in
    let last = c.last_word.ensures.value in
    let start = c.start_of-start.ensures in
    let absent = missing_before b.bytes n (c.loop-at.at - 1) c.byte_at.result (bytes_ascend words b.width b.skip b.bytes b.children.items b.population c.requires.branch)
    back.ranked c.byte_at.ensures (λ e. c.if-from-byte.true (c.from.ensures ∙ e)) in
    let past : c.start_of-start.result + 256 ^ b.width ≡ c.start_of-start.result + c.last_word.result + 1 = omega arith in (
      omega arith,
      subst (λ m. IsRun all m end) past run,
      last_absent words b.width b.skip b.bytes b.children.items b.population c.requires.branch c.args.end.base n c.start_of-start.result
          (c.start_of-start.result + c.last_word.result) start (omega arith) back.small absent,
    )

pub index-child-requires : goal.index-child-requires
index-child-requires g c =
    let b = c.args.end.branch.now in
    let back = previous b.bytes c.loop-at.byte c.loop-at.at c.loop-at.invariant.1 (omega (arith, c.loop-at-test.true)) c.loop-at.invariant.0 in
    omega (arith, back.inside, as_many g.V.Words.WORDS b.width b.skip b.bytes b.children.items b.population c.requires.branch, b.children.ok.0)

pub returns-then-not-is_full-clause-room : goal.returns-then-not-is_full-clause-room
returns-then-not-is_full-clause-room g c =
    let words = g.V.Words.WORDS in
    let b = c.args.end.branch.now in
    let n = c.loop-at.byte - 1 in
    let at = c.loop-at.at - 1 in
    let back = previous b.bytes c.loop-at.byte c.loop-at.at c.loop-at.invariant.1 (omega (arith, c.loop-at-test.true)) c.loop-at.invariant.0 in
    let long = as_many words b.width b.skip b.bytes b.children.items b.population c.requires.branch in
    let there = slice_get-get_or b.children.items at c.index-child.result.now (omega (arith, back.inside)) ∙ ap Some (sym c.index-child.ensures) in
    let here = c.byte_at.ensures ∙ ap Some (sym c.from.ensures ∙ c.if-from-byte.false) in
    let room = kid_room words b.width b.skip b.bytes b.children.items b.population c.requires.branch c.args.end.base n at c.index-child.result.now here there
    c.start_of-start.result c.start_of-start.ensures (not_full (length c.index-child.result.now.pairs) (256 ^ b.width) c.is_full.result c.is_full.ensures c.if-not-is_full.true) in
    let start = c.start_of-start.ensures in (
      omega arith,
      previous_run (shift c.args.end.base (branch_pairs b.width b.skip b.bytes b.children.items)) c.args.end.base (number_of b.skip * 256) c.loop-at.byte
          (256 ^ b.width) c.start_of-start.result (c.args.end.base + (number_of b.skip * 256 + c.args.end.edge) * 256 ^ b.width) back.byte_is start c.loop-at.invariant.2,
      room.1,
    )

pub loop-at-preserved : goal.loop-at-preserved
loop-at-preserved g c =
    let words = g.V.Words.WORDS in
    let b = c.args.end.branch.now in
    let n = c.loop-at.byte - 1 in
    let at = c.loop-at.at - 1 in
    let back = previous b.bytes c.loop-at.byte c.loop-at.at c.loop-at.invariant.1 (omega (arith, c.loop-at-test.true)) c.loop-at.invariant.0 in
    let long = as_many words b.width b.skip b.bytes b.children.items b.population c.requires.branch in
    let there = slice_get-get_or b.children.items at c.index-child.result.now (omega (arith, back.inside)) ∙ ap Some (sym c.index-child.ensures) in
    let here = c.byte_at.ensures ∙ ap Some (sym c.from.ensures ∙ c.if-from-byte.false) in
    let all = shift c.args.end.base (branch_pairs b.width b.skip b.bytes b.children.items) in
    let end = c.args.end.base + (number_of b.skip * 256 + c.args.end.edge) * 256 ^ b.width in
    let run = previous_run all c.args.end.base (number_of b.skip * 256) c.loop-at.byte (256 ^ b.width) c.start_of-start.result end back.byte_is c.start_of-start.ensures c.loop-at.invariant.2 in
    let before = kid_run words b.width b.skip b.bytes b.children.items b.population c.requires.branch c.args.end.base n at c.index-child.result.now here there
    c.start_of-start.result c.start_of-start.ensures (all_full (length c.index-child.result.now.pairs) (256 ^ b.width) c.is_full.result c.is_full.ensures c.if-not-is_full.false) in (
      omega (arith, c.loop-at.invariant.0),
      rank_before b.bytes n at (bytes_ascend words b.width b.skip b.bytes b.children.items b.population c.requires.branch) here,
      subst (λ m. IsRun all m end) c.start_of-start.ensures (run-join all c.start_of-start.result (c.start_of-start.result + 256 ^ b.width) end before run),
    )

pub start_of-start-requires-2-clause-within : goal.start_of-start-requires-2-clause-within
start_of-start-requires-2-clause-within g c =
    let words = g.V.Words.WORDS in
    let b = c.args.end.branch.now in
    let none : rank b.bytes c.loop-at.byte ≡ 0 = omega (arith, c.loop-at.invariant.1, c.loop-at-test.false) in
    let small = first_small words b.width b.skip b.bytes b.children.items b.population c.loop-at.byte c.requires.branch none c.loop-at.invariant.0 in
    word_fits words b.width b.skip b.bytes b.children.items b.population c.requires.branch c.args.end.base c.loop-at.byte small c.requires.fits

pub returns-then-start-end-clause-room : goal.returns-then-start-end-clause-room
returns-then-start-end-clause-room g c =
    let words = g.V.Words.WORDS in
    let b = c.args.end.branch.now in
    let none : rank b.bytes c.loop-at.byte ≡ 0 = omega (arith, c.loop-at.invariant.1, c.loop-at-test.false) in
    let above = c.if-start-end.true in (
      omega arith,
      subst (λ m. IsRun (shift c.args.end.base (branch_pairs b.width b.skip b.bytes b.children.items)) m (c.args.end.base + (number_of b.skip * 256 + c.args.end.edge) * 256 ^ b.width))
          (sym c.start_of-start-2.ensures ∙ (let e : c.start_of-start-2.result ≡ c.start_of-start-2.result - 1 + 1 = omega arith in e)) c.loop-at.invariant.2,
      before_absent words b.width b.skip b.bytes b.children.items b.population c.requires.branch c.args.end.base c.loop-at.byte c.start_of-start-2.result
          c.start_of-start-2.ensures above c.loop-at.invariant.0
          (λ forerunner e. missing_first b.bytes forerunner (bytes_ascend words b.width b.skip b.bytes b.children.items b.population c.requires.branch) (ap (rank b.bytes) e ∙ none)),
    )

pub returns-else-start-end-clause-room : goal.returns-else-start-end-clause-room
returns-else-start-end-clause-room g c =
    let b = c.args.end.branch.now in
    let below = c.if-start-end.false in
    let start = c.start_of-start-2.ensures in
    subst (λ m. IsRun (shift c.args.end.base (branch_pairs b.width b.skip b.bytes b.children.items)) m (c.args.end.base + (number_of b.skip * 256 + c.args.end.edge) * 256 ^ b.width))
    (let e : c.args.end.base + (number_of b.skip * 256 + c.loop-at.byte) * 256 ^ b.width ≡ c.args.end.base = omega arith in e) c.loop-at.invariant.2
