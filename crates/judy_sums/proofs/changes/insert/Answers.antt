use Rattle.std.proofs.Common.{[], get_or, insert, refl, ap, ◌∙◌, subst, sym}
use Rattle.judy_sums.specs.Chunks.{AreChunks, joined}
use Rattle.judy_sums.proofs.RowLemmas.{lent_self}
use Rattle.judy_sums.proofs.SpotLemmas.{put_is_new, put_are_new}
use Rattle.judy_sums.proofs.changes.insert.Goals as goal

pub insert-requires-clause-place : goal.insert-requires-clause-place
insert-requires-clause-place c = c.requires.place.place.within

pub returns-clause-are : goal.returns-clause-are
returns-clause-are c =
    let chunk = get_or c.args.chunks.now c.args.spot.chunk [] in
    subst AreChunks (sym c.in_ok-insert.ensures.inserted) (put_are_new c.args.chunks.now c.args.entry.0 c.args.spot.chunk c.args.spot.at c.requires.are c.requires.place chunk
    (insert chunk c.args.spot.at c.args.entry) c.args.entry.1 (lent_self c.args.chunks.now c.args.spot.chunk c.requires.place.belongs.within) c.requires.new refl c.requires.few c.requires.fits)

pub returns-clause-inserted : goal.returns-clause-inserted
returns-clause-inserted c =
    let chunk = get_or c.args.chunks.now c.args.spot.chunk [] in
    ap joined c.in_ok-insert.ensures.inserted ∙ put_is_new c.args.chunks.now c.args.entry.0 c.args.spot.chunk c.args.spot.at c.requires.are c.requires.place chunk
    (insert chunk c.args.spot.at c.args.entry) c.args.entry.1 (lent_self c.args.chunks.now c.args.spot.chunk c.requires.place.belongs.within) c.requires.new refl
