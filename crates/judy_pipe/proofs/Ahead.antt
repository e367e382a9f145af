-- Bytes of which the last ones are kept back, and given piece by piece.
use Rattle.std.proofs.Common.{◌≡◌, ℕ, ◌+◌, ◌-◌, ◌≤◌, List, ◌++◌, length, take, drop, Option, Some, None, refl, ap, arith, sym, ◌∙◌}
use Rattle.std.proofs.Math.Seq.{take-append-add}
use Rattle.std.proofs.lemmas.List.{length-append, take-append-drop, drop-take, drop-drop}
use Rattle.std.proofs.lemmas.Option.{same_Some}
use Rattle.judy_pipe.specs.Pipe.{grown, without}
use Rattle.judy_pipe.proofs.Moves.{grown-grown}

-- Of bytes that end with the kept ones, so many, those before the last few of these are the front and the first
-- of the kept ones.
given_part : (bytes front kept : List ℕ) (n count : ℕ) → length kept ≡ n → count ≤ n → front ++ kept ≡ bytes →
    take (length bytes - (n - count)) bytes ≡ front ++ take count kept
given_part bytes front kept n count len some is =
    let all : length bytes ≡ length front + n = sym (ap length is) ∙ length-append front kept ∙ ap (λ k. length front + k) len in
    let up_to : length bytes - (n - count) ≡ length front + count = omega arith in
    rw (up_to, sym is) (take-append-add front kept count)

-- What is given on comes next.
pub given_next : (known : Option (List ℕ)) (kept : List ℕ) (n count : ℕ) → length kept ≡ n → count ≤ n → grown (without known n) kept ≡ known →
    without known (n - count) ≡ grown (without known n) (take count kept)
given_next None kept n count len some is = refl
given_next (Some bytes) kept n count len some is =
    ap Some (given_part bytes (take (length bytes - n) bytes) kept n count len some (same_Some _ _ is))

-- And the rest is kept.
pub kept_next : (known : Option (List ℕ)) (kept : List ℕ) (n count : ℕ) → length kept ≡ n → count ≤ n → grown (without known n) kept ≡ known →
    grown (without known (n - count)) (drop count kept) ≡ known
kept_next known kept n count len some is =
    ap (λ given. grown given (drop count kept)) (given_next known kept n count len some is)
    ∙ grown-grown (without known n) (take count kept) (drop count kept)
    ∙ ap (grown (without known n)) (take-append-drop count kept) ∙ is

-- What stands behind the place up to which bytes of a buffer were given.
pub kept_drop : (buffer : List ℕ) (next end count : ℕ) → next + count ≤ end → drop count (take (end - next) (drop next buffer)) ≡ take (end - (next + count)) (drop (next + count) buffer)
kept_drop buffer next end count some =
    let parts : end - next ≡ count + (end - (next + count)) = omega arith in
    ap (λ n. drop count (take n (drop next buffer))) parts ∙ drop-take count (end - (next + count)) (drop next buffer)
    ∙ ap (take (end - (next + count))) (drop-drop count next buffer)
