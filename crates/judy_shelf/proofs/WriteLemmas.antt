-- Texts that are written one after another.
use Rattle.std.proofs.Common.{◌≡◌, ℕ, ◌+◌, List, ◌++◌, length, take, drop, Option, Some, None, Result, Ok, Err, [], refl, sym, ap, subst, ◌∙◌, append_assoc, append-nil, arith}
use Rattle.std.specs.Result.{IsErrAnd}
use Rattle.std.proofs.lemmas.List.{take_at, take-append-drop, length-append}
use Rattle.judy_pipe.specs.Pipe.{grown, GrewByFront}
use Rattle.judy_pipe.proofs.Moves.{grown-grown}
use Rattle.judy_shelf.specs.Writes.{Sunk, WroteAll, WroteFront, Wrote}

pub grown_nothing : (known : Option (List ℕ)) → grown known [] ≡ known
grown_nothing None = refl
grown_nothing (Some before) = ap Some (append-nil before)

-- A front of a piece behind what was written is a front of the whole.
front_later : (before : Option (List ℕ)) (written piece rest : List ℕ) (after : Option (List ℕ)) → GrewByFront (grown before written) piece after →
    GrewByFront before (written ++ (piece ++ rest)) after
front_later before written piece rest after front =
    let some = take front.0 piece in
    let left = drop front.0 piece ++ rest in
    let parts : written ++ (piece ++ rest) ≡ (written ++ some) ++ left =
    ap (λ p. written ++ (p ++ rest)) (sym (take-append-drop front.0 piece)) ∙ ap (λ p. written ++ p) (append_assoc some (drop front.0 piece) rest) ∙ sym (append_assoc written some left) in
    let all : length (written ++ (piece ++ rest)) ≡ length (written ++ some) + length left = ap length parts ∙ length-append (written ++ some) left in (
      length (written ++ some),
      omega arith,
      front.2 ∙ grown-grown before written some ∙ ap (grown before) (sym (ap (take (length (written ++ some))) parts ∙ take_at (written ++ some) left (length (written ++ some)) refl)),
    )

wrote_front : (one other : List ℕ) (before mid after : Sunk) → mid.taken ≡ grown before.taken one → GrewByFront mid.taken other after.taken → GrewByFront before.taken (one ++ other) after.taken
wrote_front one other before mid after first front =
    let from : GrewByFront (grown before.taken one) other after.taken = subst (λ known. GrewByFront known other after.taken) first front in
    subst (λ text. GrewByFront before.taken (one ++ text) after.taken) (append-nil other) (front_later before.taken one other [] after.taken from)

wrote_short : (one other : List ℕ) (before after : Option (List ℕ)) → GrewByFront before one after → GrewByFront before (one ++ other) after
wrote_short one other before after front =
    front_later before [] one other after (subst (λ known. GrewByFront known one after) (sym (grown_nothing before)) front)

module _ (one other : List ℕ) (before : Sunk) where
  -- A text behind another, written whole.
  pub wrote_both : (mid after : Sunk) → WroteAll one before mid → WroteAll other mid after → WroteAll (one ++ other) before after
  wrote_both mid after first second =
      (second.0 ∙ ap (λ known. grown known other) first.0 ∙ grown-grown before.taken one other, second.1 ∙ first.1)

  -- A front of a text behind another.
  pub wrote_second : (mid after : Sunk) → WroteAll one before mid → WroteFront other mid after → WroteFront (one ++ other) before after
  wrote_second mid after first second =
      (wrote_front one other before mid after first.0 second.0, second.1 ∙ ap (λ failures. failures + 1) first.1)

  -- A text of which a front was written, whatever was to come behind it.
  pub wrote_first : (after : Sunk) → WroteFront one before after → WroteFront (one ++ other) before after
  wrote_first after first = (wrote_short one other before.taken after.taken first.0, first.1)

  -- The last of two texts decides.
  pub wrote_then : {Y E : Type 0} (mid after : Sunk) (result : Result Y E) → WroteAll one before mid → Wrote other mid result after → Wrote (one ++ other) before result after
  wrote_then mid after (Ok done) first second = wrote_both mid after first second
  wrote_then mid after (Err fault) first second = wrote_second mid after first second

-- What is answered where a write failed.
pub wrote_err : {Y E : Type 0} (text : List ℕ) (before after : Sunk) (P : E → Type 0) (result : Result Y E) → IsErrAnd result P → WroteFront text before after → Wrote text before result after
wrote_err text before after P (Ok done) is front = absurd is
wrote_err text before after P (Err fault) is front = front
