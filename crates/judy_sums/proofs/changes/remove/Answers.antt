use Rattle.std.proofs.Common.{◌≡◌, ℕ, ◌<◌, List, [], ◌∷◌, length, get_or, remove, refl, ap, sym, subst, ◌∙◌, arith}
use Rattle.judy_sums.specs.Pairs.{Pairs, without}
use Rattle.judy_sums.specs.Chunks.{AreChunks, pair_at, joined, with_left}
use Rattle.judy_sums.proofs.RowLemmas.{lent_self, removed_set}
use Rattle.judy_sums.proofs.SpotLemmas.{left_is, left_are, gone_is, gone_are}
use Rattle.judy_sums.proofs.changes.remove.Goals as goal

module _ (chunks : List Pairs) (at place : ℕ) (are : AreChunks chunks) (within : at < length chunks) (inside : place < length (get_or chunks at [])) where
  after_are : (new : Pairs) → new ≡ remove (get_or chunks at []) place → AreChunks (with_left chunks at new)
  after_are [] e = subst AreChunks (removed_set chunks at []) (gone_are chunks at place are within inside (get_or chunks at []) (lent_self chunks at within) [] e refl)
  after_are (pair ∷ rest) e = left_are chunks at place are within inside (get_or chunks at []) (lent_self chunks at within) (pair ∷ rest) e (omega arith)

  after_is : (new : Pairs) → new ≡ remove (get_or chunks at []) place → joined (with_left chunks at new) ≡ without (pair_at chunks at place).0 (joined chunks)
  after_is [] e = sym (ap joined (removed_set chunks at [])) ∙ gone_is chunks at place are within inside (get_or chunks at []) (lent_self chunks at within) [] e refl
  after_is (pair ∷ rest) e = left_is chunks at place are within inside (get_or chunks at []) (lent_self chunks at within) (pair ∷ rest) e

pub returns-clause-are : goal.returns-clause-are
returns-clause-are c =
    let left = remove (get_or c.args.chunks.now c.args.spot.chunk []) c.args.spot.at in
    subst AreChunks (sym c.remove.ensures) (after_are c.args.chunks.now c.args.spot.chunk c.args.spot.at c.requires.are c.requires.chunk c.requires.place left refl)

pub returns-clause-removed : goal.returns-clause-removed
returns-clause-removed c =
    let left = remove (get_or c.args.chunks.now c.args.spot.chunk []) c.args.spot.at in
    ap joined c.remove.ensures ∙ after_is c.args.chunks.now c.args.spot.chunk c.args.spot.at c.requires.are c.requires.chunk c.requires.place left refl
