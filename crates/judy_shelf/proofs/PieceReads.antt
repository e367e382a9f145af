-- Bytes of which a first piece was read, and what is left of them.
use Rattle.std.proofs.Common.{◌≡◌, ℕ, ◌+◌, ◌-◌, ◌≤◌, ◌∷◌, Bool, true, false, cond, nat_lt, List, ◌++◌, length, take, drop, Result, Ok, Err, refl, sym, ap, ◌∙◌, arith}
use Rattle.std.proofs.Math.Seq.{take-add}
use Rattle.std.proofs.lemmas.Bool.{lt-ltb, le-ltb, ltb-true, ltb-false}
use Rattle.std.proofs.lemmas.List.{take_all, take_at, drop_at, drop-drop, length-append}
use borrow.Rule.Slice.PartMut.{put_mid}
use Rattle.judy_model.specs.Keys.{IsByteString}
use Rattle.judy_model.specs.Fields.{truncated, bytes, followed_by, ◌>>=◌, done, Flaw}
use Rattle.judy_pipe.specs.Pipe.{grown}
use Rattle.judy_shelf.specs.declared.fault.LoadFault.{LoadFault}
use Rattle.judy_shelf.specs.Reads.{Drawn, cause_of, Nowhere, Reads}
use Rattle.judy_shelf.proofs.Rooms.{filled_long, filled_more}
use Rattle.judy_shelf.proofs.ReadLemmas.{Reading, reading_fault, reading_value, fault_first, value_then, value_done}

-- A room whose end a piece fills is what stood before it and the piece.
pub end_filled : (filled : ℕ) (room piece : List ℕ) → filled ≤ length room → length piece ≡ length room - filled → put_mid filled (length room - filled) room piece ≡ take filled room ++ piece
end_filled filled room piece within long =
    let whole = put_mid filled (length room - filled) room piece in
    let all = filled_long filled 0 room piece within long in
    sym (take_all (filled + length piece) whole (omega arith))
    ∙ filled_more filled (length piece) room piece within long (omega arith) ∙ ap (λ p. take filled room ++ p) (take_all (length piece) piece (omega arith))

module _ (piece : List ℕ) (count left : ℕ) (long : length piece ≡ count) where
  -- The bytes that are left, behind the piece.
  abbrev pub more_bytes : List ℕ → Result (List ℕ × List ℕ) Flaw
  more_bytes = bytes left >>= (λ rest. done (piece ++ rest))

  all_taken : (more : List ℕ) → take (count + left) (piece ++ more) ≡ piece ++ take left more
  all_taken more = take-add count left (piece ++ more) ∙ (λ t. take_at piece more count long t ++ take left (drop_at piece more count long t))

  all_dropped : (more : List ℕ) → drop (count + left) (piece ++ more) ≡ drop left more
  all_dropped more = sym (drop-drop left count (piece ++ more)) ∙ ap (drop left) (drop_at piece more count long)

  by_length : (more : List ℕ) (short : Bool) → nat_lt (length more) left ≡ short →
      bytes (count + left) (piece ++ more) ≡ followed_by (cond short (Err truncated) (Ok (take left more, drop left more))) (λ rest. done (piece ++ rest))
  by_length more true is =
      let all = length-append piece more in
      let few = ltb-true (length more) left is in
      ap (λ b. cond b (Err truncated) (Ok (take (count + left) (piece ++ more), drop (count + left) (piece ++ more)))) (lt-ltb (length (piece ++ more)) (count + left) (omega arith))
  by_length more false is =
      let all = length-append piece more in
      let enough = ltb-false (length more) left is in
      ap (λ b. cond b (Err truncated) (Ok (take (count + left) (piece ++ more), drop (count + left) (piece ++ more)))) (le-ltb (length (piece ++ more)) (count + left) (omega arith))
      ∙ (λ t. Ok (all_taken more t, all_dropped more t))

  -- The piece was read of all.
  pub piece_read : (before mid : Drawn) → mid.given ≡ grown before.given piece → IsByteString piece → mid.failures ≡ before.failures → Reading (bytes (count + left)) more_bytes before mid
  piece_read before mid given are same = record {
    input = piece;
    given = given;
    bytes = are;
    failures = same;
    goes = λ more. by_length more (nat_lt (length more) left) refl;
    cut_before = λ front later byte is.
        let all = ap length is ∙ length-append front (byte ∷ later) in
        ap (λ b. cond b (Err truncated) (Ok (take (count + left) front, drop (count + left) front))) (lt-ltb (length front) (count + left) (omega arith));
  }

  -- What is left was read, or what stopped that stopped all.
  pub left_read : (rest : List ℕ) (before mid after : Drawn) (result : Result (Unit {0}) LoadFault) → Reading (bytes (count + left)) more_bytes before mid →
      Reads (λ _. rest) (bytes left) mid result after → Reads (λ _. piece ++ rest) (bytes (count + left)) before result after
  left_read rest before mid after (Ok nothing) far read =
      reading_value (bytes (count + left)) more_bytes before mid after far (piece ++ rest)
      (value_then (bytes left) (λ rest. done (piece ++ rest)) rest mid after read (piece ++ rest) after (value_done (piece ++ rest) after))
  left_read rest before mid after (Err fault) far read =
      reading_fault (bytes (count + left)) more_bytes before mid after far Nowhere Nowhere (λ input never. never) (cause_of fault)
      (fault_first (bytes left) (λ rest. done (piece ++ rest)) (cause_of fault) mid after read)
