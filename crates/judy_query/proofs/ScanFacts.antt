-- Where a bitmap leaf is looked through from.
use Rattle.std.proofs.Common.{◌≡◌, ℕ, sym, subst, arith}
use Rattle.judy_leaf.specs.KeyLists.{KeyList}
use Rattle.judy_node.specs.declared.view.ViewOf.{ViewOf}
use Rattle.judy_node.specs.declared.view.ViewOf.TheVariants.{BitLeaf}
use Rattle.judy_query.specs.Parts.{IsShown}
use Rattle.judy_query.specs.Walks.{IsScan}
use Rattle.judy_query.proofs.RankFacts.{rank-above}

-- In front of the first place no key is.
pub scan_first : {V : _} (words : ℕ) (view : ViewOf V) (skipped : ℕ) (list : KeyList) → view ≡ BitLeaf skipped list → IsShown words view → IsScan view 0 0
scan_first words view skipped list is shown =
    subst (λ v. IsScan v 0 0) (sym is) (rank-above words 0 256 list.pairs 0 (omega arith) (subst (IsShown words) is shown).place.2)
