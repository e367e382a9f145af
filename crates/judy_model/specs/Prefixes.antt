-- The keys of a map over byte strings that begin with a string, and the longest key that begins one. (The manual has neither.)
use Rattle.std.specs.Prelude.{ℕ, Bool, true, false, ◌==◌, ◌&&◌, not, List, [], ◌∷◌, reverse, Option, find}
use Rattle.std.specs.FinMap.{FinMap, keys, retain_keys}
use Rattle.judy_model.specs.Keys.{byte_order}

-- Whether the bytes begin with the prefix. Each string begins with itself, and with the empty one.
unfoldable pub begins_with : List ℕ → List ℕ → Bool
begins_with [] bytes = true
begins_with (byte ∷ prefix) [] = false
begins_with (byte ∷ prefix) (first ∷ rest) = (byte == first) && begins_with prefix rest

-- The keys that begin with the prefix, with their values.
unfoldable pub beginning_with : FinMap byte_order ℕ → List ℕ → FinMap byte_order ℕ
beginning_with map prefix = retain_keys map (begins_with prefix)

-- All other keys, with their values.
unfoldable pub without_prefix : FinMap byte_order ℕ → List ℕ → FinMap byte_order ℕ
without_prefix map prefix = retain_keys map (λ key. not (begins_with prefix key))

-- The longest key that the bytes begin with. Of two such keys the longer is the greater, so it is the last of them.
unfoldable pub longest_prefix : FinMap byte_order ℕ → List ℕ → Option (List ℕ)
longest_prefix map bytes = find (λ key. begins_with key bytes) (reverse (keys map))
