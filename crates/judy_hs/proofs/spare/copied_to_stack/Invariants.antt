use Rattle.std.proofs.Common.{◌≡◌, take}
use Rattle.std.specs.List.{flat_map}
use Rattle.judy_model.specs.WordBytes.{low_bytes}
use Rattle.judy_hs.proofs.spare.copied_to_stack.Given as goal

-- the words so far are spelled
abbrev pub invariant-loop-word : goal.invariant-loop-word
invariant-loop-word l = l.bytes.items ≡ flat_map (λ word. low_bytes 8 word) (take l.word-index l.words)
