-- What a look-up finds at the root.
use Rattle.std.specs.Prelude.{◌≡◌, ℕ, ◌+◌, length}
use Rattle.std.specs.FinMap as map
use Rattle.judy_node.specs.Trees.{Pairs, branch_pairs}
use Rattle.judy_node.specs.declared.view.ViewOf.TheVariants.{Branch}
use Rattle.judy_query.specs.Maps.{map_of}
use Rattle.judy_query.specs.Parts.{IsShown}
use Rattle.judy_query.specs.declared.values.Start.{Start}
use Rattle.judy_query.specs.declared.values.Start.TheVariants.{Found, Further, Other}

-- The value of the key, or a branch that has the tree's pairs.
abbrev pub IsBegun : {V : _} → ℕ → Pairs → ℕ → Start V → Type 0
IsBegun words pairs key (Found value) = value ≡ map.get (map_of pairs) key
IsBegun {V = V} words pairs key (Further branch) =
    (pairs ≡ branch_pairs branch.now.width branch.now.skip branch.now.bytes branch.now.children.items)
    × IsShown {V = V} words (Branch branch)
    × (length branch.now.skip + 1 + branch.now.width ≡ 8)
IsBegun words pairs key Other = Unit {0}
