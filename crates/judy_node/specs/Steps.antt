-- Where a key goes at a branch.
use Rattle.std.specs.Prelude.{◌≡◌, ℕ, ◌+◌, ◌*◌, ◌<◌, ◌≤◌, IsFalse, List, Some, slice_get}
use Rattle.judy_bits.specs.ByteSets.{has, rank}
use Rattle.judy_node.specs.declared.step.Step.{Step}
use Rattle.judy_node.specs.declared.step.Step.TheVariants.{Child, Missing, Below, Above}

-- A key is the skipped bytes, a byte, and a rest of so many bytes as the children's keys have: `block` is what the skipped
-- bytes come to, in units.
pub record IsKeyOf (unit block key byte rest : ℕ) : Type 0 where
  pub byte_is : byte < 256
  pub rest_is : rest < unit
  pub key_is : key ≡ (block + byte) * unit + rest

-- The step of a key at a branch with children of these bytes: to the child of its byte; to where that child would stand; or
-- past all keys that begin with the skipped bytes, on either side.
abbrev pub IsStep : ℕ → ℕ → List ℕ → ℕ → Step → Type 0
IsStep unit block bytes key (Child byte place rest) = IsKeyOf unit block key byte rest × (slice_get bytes place ≡ Some byte)
IsStep unit block bytes key (Missing byte place rest) = IsKeyOf unit block key byte rest × IsFalse (has bytes byte) × (place ≡ rank bytes byte)
IsStep unit block bytes key Below = key < block * unit
IsStep unit block bytes key Above = (block + 256) * unit ≤ key
