-- A run with ample memory: each line does what `step` says, from the store that the line before it left.
use Rattle.std.specs.Prelude.{ℕ, List, [], ◌∷◌, flat_map}
use Rattle.judy_model.specs.Lines.{Line, lines_of}
use Rattle.judy_model.specs.Stores.{Store}
use Rattle.judy_model.specs.Replies.{Reply, output_of}
use Rattle.judy_model.specs.Steps.{step}

-- The replies of lines, one a line.
abbrev pub ample_replies : Store → List Line → List Reply
ample_replies store [] = []
ample_replies store (line ∷ lines) = (step store line).0 ∷ ample_replies (step store line).1 lines

-- The store that they leave.
abbrev pub ample_store : Store → List Line → Store
ample_store store [] = store
ample_store store (line ∷ lines) = ample_store (step store line).1 lines

-- What a script puts out with ample memory.
abbrev pub ample_output : Store → List ℕ → List ℕ
ample_output store script = flat_map output_of (ample_replies store (lines_of script))

-- The store that it leaves.
abbrev pub store_after : Store → List ℕ → Store
store_after store script = ample_store store (lines_of script)
