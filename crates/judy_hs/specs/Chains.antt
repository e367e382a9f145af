-- A chain: long keys and their values, as a list of pairs.
use Rattle.std.specs.Prelude.{◌≡◌, ℕ, Bool, cond, bytes_eq, List, [], ◌∷◌, Option, Some, None}
use Rattle.std.specs.BTreeMap.{insert_entry}
use Rattle.judy_model.specs.Keys.{byte_order}

-- Pairs of a key and its value.
abbrev pub Pairs : Type 0
Pairs = List (List ℕ × ℕ)

-- Whether a pair has the key: its bytes decide.
abbrev pub has_key : List ℕ → (List ℕ × ℕ) → Bool
has_key key pair = bytes_eq pair.0 key

-- The value of a key.
abbrev pub value_in : Pairs → List ℕ → Option ℕ
value_in [] key = None
value_in (pair ∷ rest) key = cond (has_key key pair) (Some pair.1) (value_in rest key)

-- No two pairs have one key.
abbrev pub AreApart : Pairs → Type 0
AreApart [] = Unit {0}
AreApart (pair ∷ rest) = (value_in rest pair.0 ≡ None) × AreApart rest

-- The pairs with a value for a key that is in one of them.
abbrev pub with_value : Pairs → List ℕ → ℕ → Pairs
with_value [] key value = []
with_value (pair ∷ rest) key value = cond (has_key key pair) ((pair.0, value) ∷ rest) (pair ∷ with_value rest key value)

-- The pairs with a key put in, behind those whose keys are below it.
abbrev pub with_pair : Pairs → List ℕ → ℕ → Pairs
with_pair pairs key value = insert_entry byte_order pairs key value

-- The same where the first pair stays the first one.
abbrev pub joined : Pairs → List ℕ → ℕ → Pairs
joined [] key value = (key, value) ∷ []
joined (first ∷ rest) key value = first ∷ with_pair rest key value

-- The pairs without a key.
abbrev pub without : Pairs → List ℕ → Pairs
without [] key = []
without (pair ∷ rest) key = cond (has_key key pair) rest (pair ∷ without rest key)
