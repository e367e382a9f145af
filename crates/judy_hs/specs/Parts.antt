-- The word by which the group of its length finds a key.
use Rattle.std.specs.Prelude.{ℕ, nat_le, if◌then◌else◌, List, length}
use Rattle.judy_model.specs.WordBytes.{number_of}

-- A key of at most 8 bytes is the word that it spells; a longer one has its hash.
abbrev pub part_of : (List ℕ → ℕ) → List ℕ → ℕ
part_of hash_of key = if nat_le (length key) 8 then number_of key else hash_of key
