use Rattle.std.proofs.Common.{[], ◌/◌, List, refl, ap, arith, length, get_or, take, drop, sym, subst, ◌∙◌}
use Rattle.judy_sums.specs.Pairs.{Pairs}
use Rattle.judy_sums.specs.Chunks.{AreChunks, joined}
use Rattle.judy_sums.proofs.ChunkLemmas.{parted_all, parted_joined, parted_are}
use Rattle.judy_sums.proofs.RowLemmas.{lent_self}
use Rattle.judy_sums.proofs.changes.part.Goals as goal

pub returns-clause-are : goal.returns-clause-are
returns-clause-are c =
    let chunks : List Pairs = c.args.chunks.now in
    let chunk = get_or chunks c.args.at [] in
    let half = length chunk / 2 in
    let all = parted_all chunks c.args.at c.requires.within refl chunk (take half chunk) (drop half chunk) (lent_self chunks c.args.at c.requires.within) refl refl c.in_ok-part.ensures.parted in
    let long = c.requires.long in
    subst AreChunks (sym all) (parted_are chunks c.args.at half c.requires.within c.requires.are (omega arith) (omega arith))

pub returns-clause-same : goal.returns-clause-same
returns-clause-same c =
    let chunks : List Pairs = c.args.chunks.now in
    let chunk = get_or chunks c.args.at [] in
    let half = length chunk / 2 in
    let all = parted_all chunks c.args.at c.requires.within refl chunk (take half chunk) (drop half chunk) (lent_self chunks c.args.at c.requires.within) refl refl c.in_ok-part.ensures.parted in
    ap joined all ∙ parted_joined chunks c.args.at half c.requires.within
