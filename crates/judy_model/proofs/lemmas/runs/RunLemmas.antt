-- Runs, a line at a time.
use Rattle.std.proofs.Common.{◌≡◌, List, [], ◌∷◌, ◌++◌, refl, sym, ap, ◌∙◌, append_assoc, append-nil}
use Rattle.std.specs.Prelude.{flat_map}
use Rattle.judy_model.specs.Lines.{Line}
use Rattle.judy_model.specs.Stores.{Store}
use Rattle.judy_model.specs.Replies.{Reply, output_of}
use Rattle.judy_model.specs.Steps.{Step}
use Rattle.judy_model.specs.Runs.{Steps}

-- one more line, answered after the others
pub Steps-push : (before between after : Store) (lines : List Line) (replies : List Reply) (line : Line) (reply : Reply) → Steps before lines replies between →
    Step between line reply after → Steps before (lines ++ line ∷ []) (replies ++ reply ∷ []) after
Steps-push before between after [] [] line reply steps step = (after, rw (← steps) step, refl)
Steps-push before between after [] (other ∷ replies) line reply steps step = absurd steps
Steps-push before between after (first ∷ lines) [] line reply steps step = absurd steps
Steps-push before between after (first ∷ lines) (other ∷ replies) line reply steps step =
    (steps.0, steps.1, Steps-push steps.0 between after lines replies line reply steps.2 step)

-- one more reply, put out after the others
pub output-push : (replies : List Reply) (reply : Reply) → flat_map output_of (replies ++ reply ∷ []) ≡ flat_map output_of replies ++ output_of reply
output-push [] reply = append-nil (output_of reply)
output-push (first ∷ replies) reply =
    ap (λ rest. output_of first ++ rest) (output-push replies reply) ∙ sym (append_assoc (output_of first) (flat_map output_of replies) (output_of reply))
