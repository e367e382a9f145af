use Rattle.std.proofs.Common.{[], sym, subst}
use Rattle.std.proofs.lemmas.List.{get_or_read}
use Rattle.judy_sums.specs.Chunks.{Ascends}
use Rattle.judy_sums.proofs.ChunkLemmas.{chunk_ascends}
use Rattle.judy_sums.proofs.chunks.spot_of.Goals as goal

pub place_of-at-requires : goal.place_of-at-requires
place_of-at-requires c =
    let one = get_or_read c.args.chunks.now c.chunk_of-chunk.result c.index-chunks-chunk.result c.chunk_of-chunk.ensures.within c.index-chunks-chunk.is [] in
    subst Ascends (sym one) (chunk_ascends c.args.chunks.now c.args.word c.chunk_of-chunk.result c.requires.are c.chunk_of-chunk.ensures)
