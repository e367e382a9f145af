use Rattle.std.proofs.Common.{[], ◌+◌, get_or, set, refl, ap, ◌∙◌, subst, sym, arith}
use Rattle.judy_sums.specs.Chunks.{AreChunks, joined, pair_at}
use Rattle.judy_sums.proofs.RowLemmas.{lent_self}
use Rattle.judy_sums.proofs.SpotLemmas.{changed_is, changed_are}
use Rattle.judy_sums.proofs.changes.raise.Goals as goal

pub returns-clause-are : goal.returns-clause-are
returns-clause-are c =
    let chunks = c.args.chunks.now in
    let chunk = get_or chunks c.args.spot.chunk [] in
    let pair = pair_at chunks c.args.spot.chunk c.args.spot.at in
    let fits = c.requires.fits in
    subst AreChunks (sym c.raise.ensures) (changed_are chunks c.args.spot.chunk c.args.spot.at c.requires.are c.requires.chunk c.requires.place
    chunk (lent_self chunks c.args.spot.chunk c.requires.chunk) (λ n. n + 1) (set chunk c.args.spot.at (pair.0, pair.1 + 1)) refl (omega arith))

pub returns-clause-changed : goal.returns-clause-changed
returns-clause-changed c =
    let chunks = c.args.chunks.now in
    let chunk = get_or chunks c.args.spot.chunk [] in
    let pair = pair_at chunks c.args.spot.chunk c.args.spot.at in
    ap joined c.raise.ensures ∙ changed_is chunks c.args.spot.chunk c.args.spot.at c.requires.are c.requires.chunk c.requires.place
    chunk (lent_self chunks c.args.spot.chunk c.requires.chunk) (λ n. n + 1) (set chunk c.args.spot.at (pair.0, pair.1 + 1)) refl
