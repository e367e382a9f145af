-- A tree as contracts see it, and what every node of it keeps.
use Rattle.std.specs.Prelude.{◌≡◌, ◌≢◌, ℕ, ◌+◌, ◌*◌, ◌^◌, ◌<◌, ◌≤◌, List, [], ◌∷◌, ◌++◌, length}
use Rattle.judy_model.specs.Keys.{IsByteString}
use Rattle.judy_model.specs.WordBytes.{number_of}
use Rattle.judy_model.specs.Forms.{Form, branch, loose_in}
use Rattle.judy_model.specs.Shapes.{form_of}
use Rattle.judy_leaf.specs.KeyLists.{keys_of, shift}

-- Keys with their values, by ascending key.
abbrev pub Pairs : Type 0
Pairs = List (ℕ × ℕ)

-- A tree: how many bytes its keys have, or 0 where its one node doesn't tell; its keys with their values; its form.
pub record Tree : Type 0 where
  pub width : ℕ
  pub pairs : Pairs
  pub form : Form

-- A tree is tight where none of its nodes is loose.
abbrev pub IsTight : Tree → Type 0
IsTight tree = loose_in tree.form ≡ 0

-- ---- pairs

-- The keys strictly ascend from one on and stay below another, and each value is 0 where keys have no value words.
abbrev pub IsMap : ℕ → ℕ → ℕ → Pairs → Type 0
IsMap words low top [] = Unit {0}
IsMap words low top (pair ∷ pairs) = (low ≤ pair.0) × (pair.0 < top) × (words ≡ 0 → pair.1 ≡ 0) × IsMap words (pair.0 + 1) top pairs

-- The pairs of children, each behind its byte. The skipped bytes and the child's byte are one number, `block` being what the
-- skipped bytes alone come to, and it counts units of 256 to the width of the children.
abbrev pub join : ℕ → ℕ → List ℕ → List Tree → Pairs
join unit block [] kids = []
join unit block (byte ∷ bytes) [] = []
join unit block (byte ∷ bytes) (kid ∷ kids) = shift ((block + byte) * unit) kid.pairs ++ join unit block bytes kids

-- The forms of children, one after another.
abbrev pub forms_in : List Tree → Form
forms_in [] = []
forms_in (kid ∷ kids) = kid.form ++ forms_in kids

-- ---- nodes

-- What every node below another keeps, for keys of a width: it has keys, which ascend and fit the width, and no more nodes
-- than these keys have bytes; and where it is tight, its form is that of the rule.
pub record IsChild (words width : ℕ) (child : Tree) : Type 0 where
  pub low_width : 1 ≤ width
  pub high_width : width ≤ 8
  pub wide : child.width ≢ 0 → child.width ≡ width
  pub some : 0 < length child.pairs
  pub map : IsMap words 0 (256 ^ width) child.pairs
  pub nodes : length child.form ≤ width * length child.pairs
  pub shaped : IsTight child → child.form ≡ form_of words width (keys_of child.pairs)

-- A child for each byte, the bytes ascending from one on.
abbrev pub AreChildren : ℕ → ℕ → ℕ → List ℕ → List Tree → Type 0
AreChildren words width low [] [] = Unit {0}
AreChildren words width low [] (kid ∷ kids) = ⊥
AreChildren words width low (byte ∷ bytes) [] = ⊥
AreChildren words width low (byte ∷ bytes) (kid ∷ kids) = (low ≤ byte) × (byte < 256) × IsChild words width kid × AreChildren words width (byte + 1) bytes kids

-- The pairs of a branch, whose children have keys of a width.
abbrev pub branch_pairs : ℕ → List ℕ → List ℕ → List Tree → Pairs
branch_pairs width skipped bytes kids = join (256 ^ width) (number_of skipped * 256) bytes kids

-- The parts of a branch fit each other: the width of its children's keys, the bytes that it skips, its children with their
-- bytes, and the number of keys below it.
pub record AreParts (words width : ℕ) (skipped bytes : List ℕ) (kids : List Tree) (count : ℕ) : Type 0 where
  pub some_width : 1 ≤ width
  pub within : length skipped + 1 + width ≤ 8
  pub skipped_bytes : IsByteString skipped
  pub children : AreChildren words width 0 bytes kids
  pub counted : count ≡ length (branch_pairs width skipped bytes kids)

-- What every branch keeps: its parts, and at least one child.
pub record IsBranch (words width : ℕ) (skipped bytes : List ℕ) (kids : List Tree) (count : ℕ) : Type 0 where
  pub parts : AreParts words width skipped bytes kids count
  pub holds : 1 ≤ length bytes

-- A branch as a tree.
abbrev pub branch_tree : ℕ → List ℕ → List ℕ → List Tree → ℕ → Tree
branch_tree width skipped bytes kids count = record {
  width = length skipped + 1 + width;
  pairs = branch_pairs width skipped bytes kids;
  form = branch skipped bytes count ∷ forms_in kids;
}

-- What every tree of words keeps: its keys have eight bytes and ascend; and where it is tight, its form is that of the rule.
pub record IsNode (words : ℕ) (tree : Tree) : Type 0 where
  pub wide : tree.width ≡ 8
  pub map : IsMap words 0 (256 ^ 8) tree.pairs
  pub nodes : length tree.form ≤ 8 * length tree.pairs
  pub shaped : IsTight tree → tree.form ≡ form_of words 8 (keys_of tree.pairs)
