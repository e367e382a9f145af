-- The places of a dump at which one who loads it may want memory: where an array is to be made, and where a key
-- is to be put into it. (This project's own.)
use Rattle.std.specs.Prelude.{◌≡◌, ℕ, ◌<◌, ◌≤◌, List, []}
use Rattle.judy_model.specs.Fields.{Parser, ◌>>=◌, done, Begins}
use Rattle.judy_model.specs.DumpGrammar as grammar

-- A dump up to the key count of an array, before which so many stand, and so many of its entries: how many arrays
-- and how many of its keys are said.
abbrev pub up_to_entry : ℕ → ℕ → Parser (ℕ × ℕ)
up_to_entry earlier listed = do
  version ← grammar.begins
  arrays ← grammar.array_count
  made ← grammar.arrays version [] earlier
  _ ← grammar.name made
  kind ← grammar.kind
  limit ← grammar.limit
  keys ← grammar.key_count limit
  _ ← grammar.contents version kind limit listed
  done (arrays, keys)

-- Bytes have no flaw, and end behind the key count of an array or behind one of its entries.
abbrev pub EndsAtEntry : List ℕ → Type 0
EndsAtEntry dump = (earlier : ℕ) × (listed : ℕ) × Begins (up_to_entry earlier listed) (λ said rest. (earlier < said.0) × (listed ≤ said.1) × (rest ≡ [])) dump
