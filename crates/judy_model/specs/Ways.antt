-- The way of a word down a tree: the nodes that stand where the word could be a key, from the root on.
use Rattle.std.specs.Prelude.{◌≡◌, ℕ, ◌+◌, ◌-◌, ◌*◌, ◌/◌, ◌^◌, ◌≤◌, ◌==◌, ◌⊎◌, if◌then◌else◌, List, [], ◌∷◌, ◌++◌, length}
use Rattle.judy_model.specs.WordBytes.{number_of}
use Rattle.judy_model.specs.Forms.{Node, immediate, leaf, bitmap_leaf, branch, Form, Place, places_of}

-- How many keys a node holds, those of the nodes below it among them.
abbrev pub held_by : Node → ℕ
held_by (immediate keys) = length keys
held_by (leaf keys) = length keys
held_by (bitmap_leaf skipped bytes) = length bytes
held_by (branch skipped bytes count) = count

-- The places of a node's children.
abbrev pub places_below : Place → Node → List Place
places_below place (immediate keys) = []
places_below place (leaf keys) = []
places_below place (bitmap_leaf skipped bytes) = []
places_below place (branch skipped bytes count) = places_of place.0 (place.1 - (length skipped + 1)) (number_of skipped * 256) bytes

-- A place is on the way of a word where the two differ in no more of their lowest bytes than the keys there have.
abbrev pub LeadsTo : ℕ → Place → Type 0
LeadsTo word place = word / 256 ^ place.1 ≡ place.0 / 256 ^ place.1

-- Of the nodes that stand at these places and below them, one on the way of a word holds so many keys.
abbrev pub HoldsAt : ℕ → ℕ → List Place → Form → Type 0
HoldsAt count word places [] = ⊥
HoldsAt count word [] (node ∷ nodes) = ⊥
HoldsAt count word (place ∷ places) (node ∷ nodes) =
    (LeadsTo word place × (held_by node ≡ count)) ⊎ HoldsAt count word (places_below place node ++ places) nodes

-- The same of all nodes of a tree whose keys have a width.
abbrev pub HoldsOnWay : ℕ → ℕ → ℕ → Form → Type 0
HoldsOnWay count word width form = HoldsAt count word ((0, width) ∷ []) form

-- How many keys are the same as a word but for their lowest bytes; `unit` is 256 to the number of these.
abbrev pub alike : ℕ → ℕ → List ℕ → ℕ
alike unit word [] = 0
alike unit word (key ∷ keys) = (if key / unit == word / unit then 1 else 0) + alike unit word keys

-- So many keys are the same as a word but for some number of lowest bytes, of those that keys of a width have.
abbrev pub AreAlike : ℕ → ℕ → ℕ → List ℕ → Type 0
AreAlike count width word keys = (bytes : ℕ) × (bytes ≤ width) × (alike (256 ^ bytes) word keys ≡ count)

-- Keys strictly ascend from one on.
abbrev pub Ascends : ℕ → List ℕ → Type 0
Ascends low [] = Unit {0}
Ascends low (key ∷ keys) = (low ≤ key) × Ascends (key + 1) keys
