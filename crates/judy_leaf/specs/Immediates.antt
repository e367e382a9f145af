-- How an immediate lies in the node: keys packed into one word, and a value.
use Rattle.std.specs.Prelude.{◌≡◌, ℕ, ◌*◌, ◌/◌, ◌≤◌, ◌==◌, if◌then◌else◌, List, [], ◌∷◌, take}
use Rattle.std.specs.List.Sorted.{IsStrictlySortedBy}
use Rattle.judy_model.specs.Keys.{word_order}
use Rattle.judy_leaf.specs.Packing.{keys_in, IsPacked}
use Rattle.judy_leaf.specs.KeyLists.{KeyList, pairs_of}

-- How many keys an immediate holds: one where keys have a value, else as many as fit into a word.
abbrev pub imm_room : ℕ → ℕ → ℕ
imm_room words width = if words == 1 then 1 else 8 / width

-- The keys and values of an immediate.
abbrev pub imm_list : ℕ → ℕ → ℕ → ℕ → ℕ → KeyList
imm_list words width count keys value = record { width = width; pairs = pairs_of (keys_in width count (keys ∷ [])) (take (words * count) (value ∷ [])) }

-- What always holds of its parts.
pub record IsImm (words width count keys : ℕ) : Type 0 where
  pub one : words ≤ 1
  pub few : words ≡ 1 → count ≤ 1
  pub packed : IsPacked width count (keys ∷ [])
  pub ascending : IsStrictlySortedBy word_order (keys_in width count (keys ∷ []))

-- The keys of one word are changed, and so is their number.
pub record IsWordChange (width count later : ℕ) (change : List ℕ → List ℕ) (before after : ℕ) : Type 0 where
  pub packed : IsPacked width later (after ∷ [])
  pub changed : keys_in width later (after ∷ []) ≡ change (keys_in width count (before ∷ []))

-- How many keys the two words of an immediate in a node stand for: one where keys have a value, else the number in the first word.
abbrev pub count_in : ℕ → ℕ → ℕ
count_in words head = if words == 1 then 1 else head

-- The word that holds them.
abbrev pub keys_part : ℕ → ℕ → ℕ → ℕ
keys_part words head word = if words == 1 then head else word

-- The value, 0 where keys have none.
abbrev pub value_part : ℕ → ℕ → ℕ
value_part words word = if words == 1 then word else 0

-- The list that the two words are.
abbrev pub parts_list : ℕ → ℕ → ℕ → ℕ → KeyList
parts_list words width head word = imm_list words width (count_in words head) (keys_part words head word) (value_part words word)

-- The two words are an immediate that holds a key.
pub record IsImmParts (words width head word : ℕ) : Type 0 where
  pub imm : IsImm words width (count_in words head) (keys_part words head word)
  pub some : 1 ≤ count_in words head
