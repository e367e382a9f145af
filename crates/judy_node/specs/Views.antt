-- What a node shows of itself to those who enter it.
use Rattle.std.specs.Prelude.{◌≡◌, ℕ, ◌+◌, ◌-◌, ◌*◌, ◌^◌, ◌<◌, [], ◌∷◌, length}
use Rattle.judy_model.specs.WordBytes.{low_bytes}
use Rattle.judy_model.specs.Forms.{Form, immediate, leaf, bitmap_leaf, branch}
use Rattle.judy_leaf.specs.KeyLists.{keys_of, shift}
use Rattle.judy_node.specs.Trees.{Pairs, Tree, IsMap, forms_in, branch_pairs, IsBranch}
use Rattle.judy_node.specs.Populations.{AreSums}
use Rattle.judy_node.specs.declared.view.ViewOf.{ViewOf}
use Rattle.judy_node.specs.declared.view.ViewOf.TheVariants.{Null, One, Imm, Leaf, BitLeaf, Branch}

-- The keys with their values.
abbrev pub view_pairs : {V : _} → ViewOf V → Pairs
view_pairs Null = []
view_pairs (One key value) = (key, value) ∷ []
view_pairs (Imm list) = list.pairs
view_pairs (Leaf list) = list.pairs
view_pairs (BitLeaf skipped list) = shift (skipped * 256) list.pairs
view_pairs (Branch b) = branch_pairs b.now.width b.now.skip b.now.bytes b.now.children.items

-- The form, for keys of a width.
abbrev pub view_form : {V : _} → ℕ → ViewOf V → Form
view_form width Null = []
view_form width (One key value) = immediate (key ∷ []) ∷ []
view_form width (Imm list) = immediate (keys_of list.pairs) ∷ []
view_form width (Leaf list) = leaf (keys_of list.pairs) ∷ []
view_form width (BitLeaf skipped list) = bitmap_leaf (low_bytes (width - 1) skipped) (keys_of list.pairs) ∷ []
view_form width (Branch b) = branch b.now.skip b.now.bytes b.now.population ∷ forms_in b.now.children.items

-- What holds of the parts, in a tree whose keys have so many value words and such a width.
abbrev pub IsPlace : {V : _} → ℕ → ℕ → ViewOf V → Type 0
IsPlace words width Null = Unit {0}
IsPlace words width (One key value) = width ≡ 8
IsPlace words width (Imm list) = list.width ≡ width
IsPlace words width (Leaf list) = list.width ≡ width
IsPlace words width (BitLeaf skipped list) = (list.width ≡ width) × (skipped < 256 ^ (width - 1)) × IsMap words 0 256 list.pairs
IsPlace words width (Branch b) = (length b.now.skip + 1 + b.now.width ≡ width) × IsBranch words b.now.width b.now.skip b.now.bytes b.now.children.items b.now.population ×
    AreSums b.now.sums b.now.children.items

-- The view of a tree whose keys have a width.
pub record IsView {V : _} (words width : ℕ) (tree : Tree) (view : ViewOf V) : Type 0 where
  pub pairs : tree.pairs ≡ view_pairs view
  pub form : tree.form ≡ view_form width view
  pub map : IsMap words 0 (256 ^ width) (view_pairs view)
  pub place : IsPlace words width view
