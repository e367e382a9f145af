use Rattle.std.proofs.Common.{ℕ, List, [], take, ap, arith, sym, subst}
use Rattle.std.proofs.lemmas.List.{get_or_read}
use Rattle.std.proofs.lemmas.List.Sums.{sum_by-le-sum_by}
use Rattle.judy_sums.specs.Pairs.{Pairs, sum_of, sum_below, part_below}
use Rattle.judy_sums.specs.Chunks.{Ascends, AreChunks, joined}
use Rattle.judy_sums.proofs.PairLemmas.{part_within}
use Rattle.judy_sums.proofs.ChunkLemmas.{sum_within, below_is, chunk_ascends}
use Rattle.judy_sums.proofs.chunks.below.Goals as goal

pub below-requires-clause-ascends : goal.below-requires-clause-ascends
below-requires-clause-ascends c =
    let all = c.all-all.result.now in
    let one = get_or_read all c.chunk_of-at.result c.index-all-at.result c.chunk_of-at.ensures.within c.index-all-at.is [] in
    subst Ascends (sym one) (chunk_ascends all c.args.word c.chunk_of-at.result (subst AreChunks (sym c.all-all.ensures) c.requires) c.chunk_of-at.ensures)

pub below-requires-clause-fits : goal.below-requires-clause-fits
below-requires-clause-fits c =
    let all = c.all-all.result.now in
    let most = sum_within all c.chunk_of-at.result c.chunk_of-at.ensures.within in
    let one = ap sum_of (get_or_read all c.chunk_of-at.result c.index-all-at.result c.chunk_of-at.ensures.within c.index-all-at.is []) in
    let are = subst AreChunks (sym c.all-all.ensures) c.requires in
    let fits = are.fits in
    omega arith

pub overflow_add-result : goal.overflow_add-result
overflow_add-result c =
    let all = c.all-all.result.now in
    let most = sum_within all c.chunk_of-at.result c.chunk_of-at.ensures.within in
    let one = ap sum_of (get_or_read all c.chunk_of-at.result c.index-all-at.result c.chunk_of-at.ensures.within c.index-all-at.is []) in
    let part = sum_by-le-sum_by (part_below c.args.word) (λ (pair : ℕ × ℕ). pair.1) c.index-all-at.result (part_within c.args.word) in
    let before = c.total_before.ensures in
    let same = ap (λ (chunks : List Pairs). sum_of (joined (take c.chunk_of-at.result chunks))) c.all-all.ensures in
    let here = c.below.ensures in
    let are = subst AreChunks (sym c.all-all.ensures) c.requires in
    let fits = are.fits in
    omega arith

pub returns : goal.returns
returns c =
    let all = c.all-all.result.now in
    let one = ap (λ (pairs : Pairs). sum_below pairs c.args.word) (get_or_read all c.chunk_of-at.result c.index-all-at.result c.chunk_of-at.ensures.within c.index-all-at.is []) in
    let is = below_is all c.args.word c.chunk_of-at.result (subst AreChunks (sym c.all-all.ensures) c.requires) c.chunk_of-at.ensures in
    let before = c.total_before.ensures in
    let same = ap (λ (chunks : List Pairs). sum_of (joined (take c.chunk_of-at.result chunks))) c.all-all.ensures in
    let sums = ap (λ (chunks : List Pairs). sum_below (joined chunks) c.args.word) c.all-all.ensures in
    let here = c.below.ensures in
    omega arith
