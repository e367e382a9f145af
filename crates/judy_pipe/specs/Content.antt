-- That the pipes of this crate keep to the laws of their traits.
use Rattle.std.specs.Prelude.{◌≡◌, ℕ, ◌-◌, ◌<◌, ◌≤◌, Bool, true, false, List, [], ◌++◌, length, take, drop, Option, Some, None, IfSome, refl}
use Rattle.std.proofs.Common.{sym, ap, ◌∙◌, append-nil, append_assoc, arith}
use Rattle.std.proofs.Math.Seq.{take-length}
use Rattle.std.proofs.lemmas.List.{take-append-drop}
use Rattle.judy_pipe.specs.declared.tally.Tally.{Tally}
use Rattle.judy_pipe.specs.Pipe.{grown, told, without, IsFront, IsEnd, GivesContent, NeverFails}

-- what a source over a slice gave is a front of it, and all of it once the end came
pub slice_in_order : (bytes : List ℕ) (given : ℕ) (ended : Bool) → (ended ≡ true → given ≡ length bytes) →
    GivesContent (Some bytes) (Some (take given bytes)) (Some ended)
slice_in_order bytes given ended last = record {
  front = (drop given bytes, sym (take-append-drop given bytes));
  end = λ is.
      let at_end : ended ≡ true = cc in ap Some (ap (λ n. take n bytes) (last at_end) ∙ take-length bytes);
}

-- a front of the bytes that are a front of all
ahead_front : (whole : List ℕ) (given : Option (List ℕ)) (count : ℕ) → IfSome given (λ bytes. IsFront bytes whole) → IfSome (without given count) (λ bytes. IsFront bytes whole)
ahead_front whole None count front = tt
ahead_front whole (Some bytes) count front =
    let n = length bytes - count in
    (drop n bytes ++ front.0, front.1 ∙ ap (λ all. all ++ front.0) (sym (take-append-drop n bytes)) ∙ append_assoc (take n bytes) (drop n bytes) front.0)

-- at the end nothing is kept back
ahead_end : (whole : List ℕ) (given : Option (List ℕ)) (next end : ℕ) → next ≤ end → (next < end → Some true ≡ Some false) → given ≡ Some whole → without given (end - next) ≡ Some whole
ahead_end whole given next end ordered going is =
    let none : length whole - (end - next) ≡ length whole = grind arith in
    ap (λ known. without known (end - next)) is ∙ ap Some (ap (λ n. take n whole) none ∙ take-length whole)

-- a source that is known never to fail, if it is, has no failure
pub none_failed : (sure : Bool) (tally : Tally) → (sure ≡ true → tally.failures ≡ 0) → NeverFails sure tally
none_failed true tally unfailing = unfailing refl
none_failed false tally unfailing = tt

-- Of a source whose last bytes another one keeps back, from `next` up to `end`, while it hasn't ended: that one
-- gives its content too.
pub ahead_in_order : (content given : Option (List ℕ)) (ended : Option Bool) (next end : ℕ) → next ≤ end → (next < end → ended ≡ told ended false) →
    GivesContent content given ended → GivesContent content (without given (end - next)) ended
ahead_in_order None given ended next end ordered going inner = tt
ahead_in_order (Some whole) given ended next end ordered going inner = record {
  front = ahead_front whole given (end - next) inner.front;
  end = λ is. ahead_end whole given next end ordered (λ some. sym is ∙ going some ∙ ap (λ known. told known false) is) (inner.end is);
}

-- a source that is known never to fail, if it is, has no failure behind a buffer either
pub none_failed_ahead : (sure : Bool) (tally : Tally) → NeverFails sure tally → NeverFails sure (record { failures = tally.failures; interruptions = 0 })
none_failed_ahead true tally none = none
none_failed_ahead false tally none = tt

-- a sink that keeps nothing keeps the end of what it took
pub none_kept : (known : Option (List ℕ)) → IfSome known (IsEnd [])
none_kept None = tt
none_kept (Some bytes) = (bytes, sym (append-nil bytes))

-- Of a sink below that keeps the end of what it took: with what stands in a buffer behind both, it is the end too.
pub kept_behind : (below : Option (List ℕ)) (kept buffered : List ℕ) → IfSome below (IsEnd kept) → IfSome (grown below buffered) (IsEnd (kept ++ buffered))
kept_behind None kept buffered last = tt
kept_behind (Some bytes) kept buffered last = (last.0, ap (λ all. all ++ buffered) last.1 ∙ append_assoc last.0 kept buffered)
