-- Bytes known so far that grow piece by piece.
use Rattle.std.proofs.Common.{◌≡◌, ℕ, ◌+◌, ◌-◌, ◌≤◌, List, ◌++◌, length, take, drop, Option, Some, None, refl, ap, arith, append_assoc, sym, ◌∙◌}
use Rattle.std.specs.Prelude.{Result, Ok, Err, IfOk}
use Rattle.std.specs.Result.{result_unwrap_or}
use Rattle.std.proofs.Math.Seq.{take-add, take-append-add, take-append-le, drop-append-le}
use Rattle.std.proofs.lemmas.List.{take_rest, take_at, drop-drop, drop-take, take-append-drop, length-take-le, length-drop}
use borrow.Rule.Slice.PartMut.{put_mid, post_of}
use Rattle.judy_pipe.specs.Pipe.{grown}

-- two pieces in turn are the one piece of both
pub grown-grown : (known : Option (List ℕ)) (xs ys : List ℕ) → grown (grown known xs) ys ≡ grown known (xs ++ ys)
grown-grown None xs ys = refl
grown-grown (Some before) xs ys = ap Some (append_assoc before xs ys)

-- of what stands from `start` on: the bytes up to `count`, and then the first `n` of what is left, are those up to `count + n`
pub grown-on : (known : Option (List ℕ)) (bytes : List ℕ) (start count n : ℕ) → start ≤ count →
    grown (grown known (take (count - start) (drop start bytes))) (take n (take (length bytes - count) (drop count bytes)))
    ≡ grown known (take (count + n - start) (drop start bytes))
grown-on known bytes start count n order =
    let first = count - start in
    let reached : start + first ≡ count = omega arith in
    let in_all : count + n - start ≡ first + n = omega arith in
    let rest : drop first (drop start bytes) ≡ drop count bytes = drop-drop first start bytes ∙ ap (λ at. drop at bytes) reached in
    rw (take_rest bytes count, in_all, take-add first n (drop start bytes), rest) (grown-grown known (take first (drop start bytes)) (take n (drop count bytes)))

-- of what stands from `start` on: the bytes up to `count`, and then those after it, are all of it
pub grown-rest : (known : Option (List ℕ)) (bytes : List ℕ) (start count : ℕ) → start ≤ count →
    grown (grown known (take (count - start) (drop start bytes))) (drop count bytes) ≡ grown known (drop start bytes)
grown-rest known bytes start count order =
    let first = count - start in
    let reached : start + first ≡ count = omega arith in
    let rest : drop first (drop start bytes) ≡ drop count bytes = drop-drop first start bytes ∙ ap (λ at. drop at bytes) reached in
    rw (sym rest) (grown-grown known (take first (drop start bytes)) (drop first (drop start bytes)) ∙ ap (grown known) (take-append-drop first (drop start bytes)))

-- an answer moved no more bytes than it was allowed
pub moved_within : {E : Type 0} (answer : Result ℕ E) (most : ℕ) → IfOk answer (λ n. n ≤ most) → result_unwrap_or answer 0 ≤ most
moved_within (Ok n) most h = h
moved_within (Err e) most h = omega arith

-- the first `given + count` bytes are the first `given` and then what a buffer got of the rest
pub given-next : (bytes front room : List ℕ) (given count : ℕ) →
    front ≡ take count (drop given bytes) → length front ≡ count → take (given + count) bytes ≡ take given bytes ++ take count (front ++ room)
given-next bytes front room given count is len =
    take-add given count bytes ∙ ap (λ xs. take given bytes ++ xs) (sym (take_at front room count len ∙ is))

-- what stands in a buffer from one place to another is the front up to the second without that up to the first
pub kept-front : (buffer : List ℕ) (start end : ℕ) → start ≤ end → drop start (take end buffer) ≡ take (end - start) (drop start buffer)
kept-front buffer start end order =
    let parts : end ≡ start + (end - start) = omega arith in
    ap (λ n. drop start (take n buffer)) parts ∙ drop-take start (end - start) buffer

-- of what a buffer holds from `start` up to `end`: the bytes up to `count`, and then those after it, are all of it
pub grown-sent : (known : Option (List ℕ)) (buffer : List ℕ) (start count end : ℕ) → start ≤ count → count ≤ end →
    grown (grown known (take (count - start) (drop start (take end buffer)))) (take (end - count) (drop count buffer))
    ≡ grown known (take (end - start) (drop start buffer))
grown-sent known buffer start count end order within =
    let held = take end buffer in
    ap (grown (grown known (take (count - start) (drop start held)))) (sym (kept-front buffer count end within))
    ∙ grown-rest known held start count order
    ∙ ap (grown known) (kept-front buffer start end (omega arith))

-- of a buffer that holds what stands from `start` up to `end`, and gets a piece there: what it held, and then the first bytes of the piece
pub grown-kept : (known : Option (List ℕ)) (buffer piece : List ℕ) (start end room count : ℕ) → start ≤ end → end ≤ length buffer → count ≤ length piece →
    grown known (take (end + count - start) (drop start (put_mid end room buffer piece)))
    ≡ grown (grown known (take (end - start) (drop start buffer))) (take count piece)
grown-kept known buffer piece start end room count order within some =
    let front = take end buffer in
    let behind : List ℕ = piece ++ post_of end room buffer in
    let len : length front ≡ end = length-take-le end buffer within in
    let held = drop start front in
    let size : length held ≡ end - start = length-drop start front ∙ ap (λ n. n - start) len in
    let count_all : end + count - start ≡ length held + count = omega arith in
    let is : take (end + count - start) (drop start (front ++ behind)) ≡ take (end - start) (drop start buffer) ++ take count piece =
    ap (take (end + count - start)) (drop-append-le start front behind (omega arith))
    ∙ ap (λ n. take n (held ++ behind)) count_all
    ∙ take-append-add held behind count
    ∙ ap (λ xs. xs ++ take count behind) (kept-front buffer start end order)
    ∙ ap (λ xs. take (end - start) (drop start buffer) ++ xs) (take-append-le count piece (post_of end room buffer) some) in
    ap (grown known) is ∙ sym (grown-grown known (take (end - start) (drop start buffer)) (take count piece))
