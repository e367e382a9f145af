-- A room that is filled from the front.
use Rattle.std.proofs.Common.{◌≡◌, ◌≢◌, ℕ, zero, suc, [], ◌∷◌, ◌+◌, ◌-◌, ◌<◌, ◌≤◌, Bool, true, cond, List, ◌++◌, length, get_or, take, drop, Option, Some, None, Ok, Err, IfSome}
use Rattle.std.proofs.Common.{refl, sym, ap, subst, ◌∙◌, arith}
use Rattle.std.proofs.Math.Seq.{take-add}
use Rattle.std.proofs.lemmas.Bool.{lt-ltb, le-ltb}
use Rattle.std.proofs.lemmas.List.{take_at, drop_at, take-append-le, length-append, length-take-le, length-drop}
use Rattle.std.proofs.lemmas.List.Elements.{All-from_get_or, All-cons, All-nil}
use borrow.Rule.Slice.PartMut.{put_mid, same_len_mid}
use Rattle.judy_model.specs.Keys.{IsByteString}
use Rattle.judy_model.specs.Fields.{truncated, trailing, bytes, end}
use Rattle.judy_pipe.specs.Pipe.{grown}
use Rattle.judy_pipe.specs.Pipe as pipe
use Rattle.judy_shelf.specs.Reads.{Drawn, reader, cut, told, ReadsValue, ReadsFault, EndFault, IsWholeOrCut, Nowhere}

pub bytes_from_each : (read : List ℕ) → ((i : ℕ) → get_or read i 0 < 256) → IsByteString read
bytes_from_each read each = All-from_get_or (λ byte. byte < 256) read 0 (λ i _. each i)

module _ (filled count : ℕ) (room piece : List ℕ) (within : filled ≤ length room) (long : length piece ≡ length room - filled) where
  pub filled_long : length (put_mid filled (length room - filled) room piece) ≡ length room
  filled_long =
      let left = length-drop filled room in
      let mid = length-take-le (length room - filled) (drop filled room) (omega arith) in
      same_len_mid filled (length room - filled) room piece (omega arith)

  pub filled_more : count ≤ length piece → take (filled + count) (put_mid filled (length room - filled) room piece) ≡ take filled room ++ take count piece
  filled_more few =
      let rest = piece ++ drop (length room - filled) (drop filled room) in
      let front = length-take-le filled room within in
      take-add filled count (take filled room ++ rest)
      ∙ (λ t. take_at (take filled room) rest filled front t ++ take count (drop_at (take filled room) rest filled front t))
      ∙ ap (λ p. take filled room ++ p) (take-append-le count piece (drop (length room - filled) (drop filled room)) few)

  pub within_room : count ≤ length piece → filled + count ≤ length (put_mid filled (length room - filled) room piece)
  within_room few = let all = filled_long in omega arith

ended_told : (known : Option Bool) → IfSome (pipe.told known true) (λ ended. ended ≡ true)
ended_told None = tt
ended_told (Some known) = refl

module _ (room : List ℕ) (filled : ℕ) (before after : Drawn) (given : after.given ≡ grown before.given (take filled room)) (are : IsByteString (take filled room)) where
  -- Fewer bytes than are wanted.
  too_few : (wanted : ℕ) → filled < wanted → filled ≤ length room → bytes wanted (take filled room) ≡ Err truncated
  too_few wanted short within =
      ap (λ b. cond b (Err truncated) (Ok (take wanted (take filled room), drop wanted (take filled room))))
      (lt-ltb (length (take filled room)) wanted (let l = length-take-le filled room within in omega arith))

  pub room_cut : (known : Option Bool) (wanted : ℕ) → filled < wanted → filled ≤ length room → after.ended ≡ pipe.told known true → after.failures ≡ before.failures →
      ReadsFault Nowhere (bytes wanted) cut before after
  room_cut known wanted short within ended same = record {
    input = take filled room;
    given = given;
    bytes = are;
    stops = (
      same,
      subst (λ e. IfSome e (λ end. end ≡ true)) (sym ended) (ended_told known),
      too_few wanted short within,
    );
  }

  pub room_broken : (wanted : ℕ) → filled < wanted → filled ≤ length room → after.failures ≡ before.failures + 1 → ReadsFault Nowhere (bytes wanted) reader before after
  room_broken wanted short within more = record { input = take filled room; given = given; bytes = are; stops = (more, too_few wanted short within) }

pub room_full : (room : List ℕ) (wanted : ℕ) (before after : Drawn) → after.given ≡ grown before.given room → IsByteString room → length room ≡ wanted →
    after.failures ≡ before.failures → ReadsValue (bytes wanted) room before after
room_full room wanted before after given are long same = record {
  input = room;
  given = given;
  bytes = are;
  failures = same;
  gives = λ more.
      let whole = length-append room more in
      let enough : wanted ≤ length (room ++ more) = omega arith in
      ap (λ b. cond b (Err truncated) (Ok (take wanted (room ++ more), drop wanted (room ++ more)))) (le-ltb (length (room ++ more)) wanted enough)
      ∙ (λ t. Ok (take_at room more wanted long t, drop_at room more wanted long t));
  cut_before = λ front later byte is.
      let all = ap length is ∙ length-append front (byte ∷ later) in
      let fewer : length front < wanted = omega arith in
      ap (λ b. cond b (Err truncated) (Ok (take wanted front, drop wanted front))) (lt-ltb (length front) wanted fewer);
}

-- Before the one byte there is none, which is the end.
before_one : (only : ℕ) (front later : List ℕ) (byte : ℕ) → only ∷ [] ≡ front ++ byte ∷ later → IsWholeOrCut (end front)
before_one only [] later byte is = tt
before_one only (first ∷ []) later byte is = absurd (let all = ap length is in omega arith)
before_one only (first ∷ second ∷ front) later byte is = absurd (let all = ap length is in omega arith)

-- A byte that came where none may.
pub byte_trailing : (byte : ℕ) (before after : Drawn) → after.given ≡ grown before.given (byte ∷ []) → after.failures ≡ before.failures → byte < 256 → EndFault (told trailing) before after
byte_trailing byte before after given same is = record {
  input = byte ∷ [];
  given = given;
  bytes = All-cons (λ byte. byte < 256) byte [] is (All-nil (λ byte. byte < 256));
  stops = (same, (λ more. refl), before_one byte);
}

-- Of a room of one byte at least one byte is all.
pub room_of_one : (count : ℕ) (room : List ℕ) → length room ≡ 1 → count ≢ 0 → take count room ≡ get_or room 0 0 ∷ []
room_of_one zero room long some = absurd (some refl)
room_of_one (suc count) [] long some = absurd (omega arith)
room_of_one (suc zero) (byte ∷ []) long some = refl
room_of_one (suc (suc count)) (byte ∷ []) long some = refl
room_of_one (suc count) (byte ∷ other ∷ room) long some = absurd (omega arith)
