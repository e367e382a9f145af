use Rattle.std.proofs.Common.{◌≡◌, ◌+◌, ◌*◌, ◌^◌, ◌<◌, ◌≤◌, length, Some, sym, ap, ◌∙◌, subst, arith, ltb-true, nat_lt}
use Rattle.std.proofs.lemmas.Option.{slice_get-get_or}
use Rattle.judy_model.specs.WordBytes.{number_of}
use Rattle.judy_model.proofs.lemmas.orders.ByteLemmas.{number_of-lt}
use Rattle.judy_leaf.specs.KeyLists.{shift}
use Rattle.judy_node.specs.Trees.{branch_pairs}
use Rattle.judy_query.specs.Rooms.{IsRun}
use Rattle.judy_query.proofs.Runs.{run-join}
use Rattle.judy_query.proofs.Splits.{next_unit}
use Rattle.judy_query.proofs.BranchRooms.{missing_there, missing_end, rank_next, least_top, not_full, all_full, words_behind, bytes_ascend, as_many, byte_small, word_fits}
use Rattle.judy_query.proofs.BranchRooms.{none_behind, start_absent, behind_absent, kid_room, kid_run}
use Rattle.judy_query.proofs.rooms.room_from.Goals as goal

pub start_of-start-requires-clause-within : goal.start_of-start-requires-clause-within
start_of-start-requires-clause-within g c =
    let words = g.V.Words.WORDS in
    let b = c.args.first.branch.now in
    let inside : c.loop-at.at < length b.children.items = subst (λ n. c.loop-at.at < n) b.children.ok.0 (let e = c.len-at-end.ensures in let test = c.loop-at-test.true in omega arith) in
    word_fits words b.width b.skip b.bytes b.children.items b.population c.requires.branch c.args.first.base c.loop-at.byte
    (byte_small words b.width b.skip b.bytes b.children.items b.population c.requires.branch c.loop-at.byte c.loop-at.at c.loop-at.invariant.1 inside) c.requires.fits

pub returns-then-from-byte-clause-room : goal.returns-then-from-byte-clause-room
returns-then-from-byte-clause-room g c =
    let words = g.V.Words.WORDS in
    let b = c.args.first.branch.now in
    let inside : c.loop-at.at < length b.children.items = subst (λ n. c.loop-at.at < n) b.children.ok.0 (let e = c.len-at-end.ensures in let test = c.loop-at-test.true in omega arith) in
    let small = byte_small words b.width b.skip b.bytes b.children.items b.population c.requires.branch c.loop-at.byte c.loop-at.at c.loop-at.invariant.1 inside in
    let absent = missing_there b.bytes (bytes_ascend words b.width b.skip b.bytes b.children.items b.population c.requires.branch) c.loop-at.byte c.loop-at.at
    c.loop-at.invariant.1 c.byte_at.result c.byte_at.ensures (λ e. c.if-from-byte.true (c.from.ensures ∙ e)) in
    let start = start_absent words b.width b.skip b.bytes b.children.items b.population c.requires.branch c.args.first.base c.loop-at.byte c.start_of-start.result
    c.start_of-start.ensures small absent in (
      start.0,
      subst (λ n. IsRun (shift c.args.first.base (branch_pairs b.width b.skip b.bytes b.children.items)) (c.args.first.base + (number_of b.skip * 256 + c.args.first.edge) * 256 ^ b.width) n)
          (sym c.start_of-start.ensures) c.loop-at.invariant.2,
      start.1,
    )

pub returns-then-not-is_full-clause-room : goal.returns-then-not-is_full-clause-room
returns-then-not-is_full-clause-room g c =
    let words = g.V.Words.WORDS in
    let b = c.args.first.branch.now in
    let inside : c.loop-at.at < length b.children.items = subst (λ n. c.loop-at.at < n) b.children.ok.0 (let e = c.len-at-end.ensures in let test = c.loop-at-test.true in omega arith) in
    let at = c.byte_at.ensures ∙ ap Some (sym c.from.ensures ∙ c.if-from-byte.false) in
    let there = slice_get-get_or b.children.items c.loop-at.at c.index-child.result.now inside ∙ ap Some (sym c.index-child.ensures) in
    let room = kid_room words b.width b.skip b.bytes b.children.items b.population c.requires.branch c.args.first.base c.loop-at.byte c.loop-at.at c.index-child.result.now
    at there c.start_of-start.result c.start_of-start.ensures (not_full (length c.index-child.result.now.pairs) (256 ^ b.width) c.is_full.result c.is_full.ensures c.if-not-is_full.true) in (
      room.0,
      subst (λ n. IsRun (shift c.args.first.base (branch_pairs b.width b.skip b.bytes b.children.items)) (c.args.first.base + (number_of b.skip * 256 + c.args.first.edge) * 256 ^ b.width) n)
          (sym c.start_of-start.ensures) c.loop-at.invariant.2,
      room.1,
    )

pub loop-at-preserved : goal.loop-at-preserved
loop-at-preserved g c =
    let words = g.V.Words.WORDS in
    let b = c.args.first.branch.now in
    let inside : c.loop-at.at < length b.children.items = subst (λ n. c.loop-at.at < n) b.children.ok.0 (let e = c.len-at-end.ensures in let test = c.loop-at-test.true in omega arith) in
    let at = c.byte_at.ensures ∙ ap Some (sym c.from.ensures ∙ c.if-from-byte.false) in
    let there = slice_get-get_or b.children.items c.loop-at.at c.index-child.result.now inside ∙ ap Some (sym c.index-child.ensures) in
    let small = byte_small words b.width b.skip b.bytes b.children.items b.population c.requires.branch c.loop-at.byte c.loop-at.at c.loop-at.invariant.1 inside in
    let run = kid_run words b.width b.skip b.bytes b.children.items b.population c.requires.branch c.args.first.base c.loop-at.byte c.loop-at.at c.index-child.result.now
    at there c.start_of-start.result c.start_of-start.ensures (all_full (length c.index-child.result.now.pairs) (256 ^ b.width) c.is_full.result c.is_full.ensures c.if-not-is_full.false) in
    let next = next_unit (number_of b.skip * 256) c.loop-at.byte (256 ^ b.width) in
    let start = c.start_of-start.ensures in
    let end : c.start_of-start.result + 256 ^ b.width ≡ c.args.first.base + (number_of b.skip * 256 + (c.loop-at.byte + 1)) * 256 ^ b.width = omega arith in (
      omega arith,
      rank_next b.bytes (bytes_ascend words b.width b.skip b.bytes b.children.items b.population c.requires.branch) c.loop-at.byte c.loop-at.at c.loop-at.invariant.1 at,
      run-join (shift c.args.first.base (branch_pairs b.width b.skip b.bytes b.children.items)) (c.args.first.base + (number_of b.skip * 256 + c.args.first.edge) * 256 ^ b.width)
          (c.args.first.base + (number_of b.skip * 256 + c.loop-at.byte) * 256 ^ b.width) (c.args.first.base + (number_of b.skip * 256 + (c.loop-at.byte + 1)) * 256 ^ b.width)
          c.loop-at.invariant.2 (subst (λ n. IsRun (shift c.args.first.base (branch_pairs b.width b.skip b.bytes b.children.items)) n
          (c.args.first.base + (number_of b.skip * 256 + (c.loop-at.byte + 1)) * 256 ^ b.width)) c.start_of-start.ensures
          (subst (λ n. IsRun (shift c.args.first.base (branch_pairs b.width b.skip b.bytes b.children.items)) c.start_of-start.result n) end run)),
    )

pub start_of-requires-clause-within : goal.start_of-requires-clause-within
start_of-requires-clause-within g c =
    let words = g.V.Words.WORDS in
    let b = c.args.first.branch.now in
    word_fits words b.width b.skip b.bytes b.children.items b.population c.requires.branch c.args.first.base c.loop-at.byte c.if-byte-lt256.true c.requires.fits

pub returns-then-byte-lt256-clause-room : goal.returns-then-byte-lt256-clause-room
returns-then-byte-lt256-clause-room g c =
    let words = g.V.Words.WORDS in
    let b = c.args.first.branch.now in
    let past : length b.bytes ≤ c.loop-at.at = let long = as_many words b.width b.skip b.bytes b.children.items b.population c.requires.branch in
    let same = b.children.ok.0 in let all = c.len-at-end.ensures in let test = c.loop-at-test.false in omega arith in
    let start = start_absent words b.width b.skip b.bytes b.children.items b.population c.requires.branch c.args.first.base c.loop-at.byte c.start_of.result c.start_of.ensures
    c.if-byte-lt256.true (missing_end b.bytes (bytes_ascend words b.width b.skip b.bytes b.children.items b.population c.requires.branch) c.loop-at.byte c.loop-at.at c.loop-at.invariant.1 past) in (
      start.0,
      subst (λ n. IsRun (shift c.args.first.base (branch_pairs b.width b.skip b.bytes b.children.items)) (c.args.first.base + (number_of b.skip * 256 + c.args.first.edge) * 256 ^ b.width) n)
          (sym c.start_of.ensures) c.loop-at.invariant.2,
      start.1,
    )

pub start_of-requires-then-has_next-clause-within : goal.start_of-requires-then-has_next-clause-within
start_of-requires-then-has_next-clause-within g c =
    let words = g.V.Words.WORDS in
    let b = c.args.first.branch.now in
    let less : number_of b.skip + 1 < 256 ^ length b.skip = subst (λ n. number_of b.skip + 1 < 256 ^ n) c.len.ensures.count
    (subst (λ n. n + 1 < 256 ^ c.len.result) c.number.ensures (ltb-true (c.number.result + 1) (256 ^ c.len.result) (sym c.has_next.ensures ∙ c.if-has_next.true))) in
    let room = words_behind words b.width b.skip b.bytes b.children.items b.population c.requires.branch less in
    let fits = c.requires.fits in
    omega arith

pub returns-then-has_next-clause-room : goal.returns-then-has_next-clause-room
returns-then-has_next-clause-room g c =
    let words = g.V.Words.WORDS in
    let b = c.args.first.branch.now in
    let less : number_of b.skip + 1 < 256 ^ length b.skip = subst (λ n. number_of b.skip + 1 < 256 ^ n) c.len.ensures.count
    (subst (λ n. n + 1 < 256 ^ c.len.result) c.number.ensures (ltb-true (c.number.result + 1) (256 ^ c.len.result) (sym c.has_next.ensures ∙ c.if-has_next.true))) in
    let end : c.loop-at.byte ≡ 256 = let most = c.loop-at.invariant.0 in let past = c.if-byte-lt256.false in omega arith in
    let start = c.start_of-then-has_next.ensures in
    let behind = behind_absent words b.width b.skip b.bytes b.children.items b.population c.requires.branch c.args.first.base c.start_of-then-has_next.result start less in (
      behind.0,
      subst (λ n. IsRun (shift c.args.first.base (branch_pairs b.width b.skip b.bytes b.children.items)) (c.args.first.base + (number_of b.skip * 256 + c.args.first.edge) * 256 ^ b.width) n)
          (ap (λ n. c.args.first.base + (number_of b.skip * 256 + n) * 256 ^ b.width) end ∙ sym start) c.loop-at.invariant.2,
      behind.1,
    )

pub returns-else-has_next-clause-room : goal.returns-else-has_next-clause-room
returns-else-has_next-clause-room g c =
    let words = g.V.Words.WORDS in
    let b = c.args.first.branch.now in
    let end : c.loop-at.byte ≡ 256 = let most = c.loop-at.invariant.0 in let past = c.if-byte-lt256.false in omega arith in
    let below = number_of-lt b.skip c.requires.branch.parts.skipped_bytes in
    let most = least_top (number_of b.skip) (256 ^ length b.skip) below ((λ t. nat_lt (sym c.number.ensures t + 1) (256 ^ sym c.len.ensures.count t)) ∙ sym c.has_next.ensures ∙ c.if-has_next.false) in
    subst (λ n. IsRun (shift c.args.first.base (branch_pairs b.width b.skip b.bytes b.children.items)) (c.args.first.base + (number_of b.skip * 256 + c.args.first.edge) * 256 ^ b.width) n)
    (ap (λ n. c.args.first.base + (number_of b.skip * 256 + n) * 256 ^ b.width) end ∙ ap (λ n. c.args.first.base + n)
    (none_behind words b.width b.skip b.bytes b.children.items b.population c.requires.branch most)) c.loop-at.invariant.2
