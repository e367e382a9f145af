use Rattle.std.proofs.Common.{◌≡◌, ◌≢◌, ℕ, ◌+◌, ◌<◌, List, ◌++◌, length, ◌∷◌, [], Bool, true, false, cond, take, drop, filter, nat_lt, get_or, refl, ap, sym, subst, ◌∙◌, arith, lt-ltb}
use Rattle.std.proofs.lemmas.List.{append-nil, append_assoc, take_all, take-append-drop, length-append}
use Rattle.std.proofs.lemmas.List.Elements.{filter_more, filter-append}
use Rattle.judy_tails.specs.Writers.{StaysBeyond}
use Rattle.judy_tails.proofs.Writing.{stays-beyond}
use Rattle.judy_sl.proofs.lemmas.pieces.PieceBytes.{piece_bytes-be}
use Rattle.judy_sl.proofs.pieces.push_each.Goals as goal
use Rattle.judy_sl.proofs.pieces.push_each.Goals.{then-byte-ne0, else-byte-ne0}

-- One more byte of a list that passes a test, and one that doesn't.
kept : (test : ℕ → Bool) (bytes : List ℕ) (i : ℕ) → i < length bytes → test (get_or bytes i 0) ≡ true →
    filter test (take (i + 1) bytes) ≡ filter test (take i bytes) ++ get_or bytes i 0 ∷ []
kept test bytes i within passes = filter_more test bytes i 0 within ∙ ap (λ b. filter test (take i bytes) ++ cond b (get_or bytes i 0 ∷ []) []) passes

passed : (test : ℕ → Bool) (bytes : List ℕ) (i : ℕ) → i < length bytes → test (get_or bytes i 0) ≡ false → filter test (take (i + 1) bytes) ≡ filter test (take i bytes)
passed test bytes i within fails =
    filter_more test bytes i 0 within ∙ ap (λ b. filter test (take i bytes) ++ cond b (get_or bytes i 0 ∷ []) []) fails ∙ append-nil (filter test (take i bytes))

-- All that pass are those among the first ones, and others.
among : (test : ℕ → Bool) (bytes : List ℕ) (i : ℕ) → length (filter test bytes) ≡ length (filter test (take i bytes)) + length (filter test (drop i bytes))
among test bytes i =
    ap length (ap (filter test) (sym (take-append-drop i bytes)) ∙ filter-append test (take i bytes) (drop i bytes)) ∙ length-append (filter test (take i bytes)) (filter test (drop i bytes))

-- A byte that isn't zero passes.
passes : (byte : ℕ) → byte ≢ 0 → nat_lt 0 byte ≡ true
passes byte some = lt-ltb 0 byte (omega (arith, some))

fails : (byte : ℕ) → byte ≡ 0 → nat_lt 0 byte ≡ false
fails byte none = ap (nat_lt 0) none

pub loop-byte-init : goal.loop-byte-init
loop-byte-init g c = record {
  bytes = piece_bytes-be c.args.piece ∙ ap (filter (λ byte. nat_lt 0 byte)) (sym c.to_be_bytes-byte-items.ensures);
  len = omega arith;
  has = λ front is. subst (g.K.KeyWriter.has c.args.key.now) (sym (append-nil front)) is;
  beyond = λ place behind. refl;
}

pub put-requires : goal.put-requires
put-requires g c =
    let bytes = c.to_be_bytes-byte-items.result in
    let at = c.loop-byte.byte-index in
    let long : length bytes ≡ 8 = ap length c.to_be_bytes-byte-items.ensures in
    let within : at < length bytes = omega arith in
    let more = ap length (kept (λ byte. nat_lt 0 byte) bytes at within (passes (get_or bytes at 0) c.if-byte-ne0.true)) ∙
    length-append (filter (λ byte. nat_lt 0 byte) (take at bytes)) (get_or bytes at 0 ∷ []) in
    let all = ap length c.loop-byte.invariant.bytes ∙ among (λ byte. nat_lt 0 byte) bytes (at + 1) in
    omega (arith, more, all, c.requires, c.loop-byte.invariant.len)

pub loop-byte-preserved : goal.loop-byte-preserved
loop-byte-preserved g c =
    let len = g.K.KeyWriter.len in
    let has = g.K.KeyWriter.has in
    let bytes = c.to_be_bytes-byte-items.result in
    let at = c.loop-byte.byte-index in
    let long : length bytes ≡ 8 = ap length c.to_be_bytes-byte-items.ensures in
    let within : at < length bytes = omega arith in
    let before = filter (λ byte. nat_lt 0 byte) (take at bytes) in
    elim c.if-byte-ne0.branch [
      | then-byte-ne0 w ↦
          let pushed = kept (λ byte. nat_lt 0 byte) bytes at within (passes (get_or bytes at 0) w.if-byte-ne0.true) in
          record {
            bytes = c.loop-byte.invariant.bytes;
            len =
                let more = ap length pushed ∙ length-append before (get_or bytes at 0 ∷ []) in
                ap len w.key-is ∙ omega (arith, more, w.put.ensures.len, c.loop-byte.invariant.len);
            has = λ front is.
                subst (λ (k : _). has k (front ++ filter (λ byte. nat_lt 0 byte) (take (at + 1) bytes))) (sym w.key-is)
                (subst (has w.put.new.self) (append_assoc front before (get_or bytes at 0 ∷ []) ∙ ap (λ more. front ++ more) (sym pushed))
                (w.put.ensures.has (front ++ before) (c.loop-byte.invariant.has front is)));
            beyond = subst (StaysBeyond len g.K.KeyWriter.beyond c.args.key.now) (sym w.key-is)
                (stays-beyond len g.K.KeyWriter.beyond c.args.key.now c.loop-byte.key w.put.new.self 1 w.put.ensures.len c.loop-byte.invariant.beyond w.put.ensures.beyond);
          }
      | else-byte-ne0 w ↦
          let same = passed (λ byte. nat_lt 0 byte) bytes at within (fails (get_or bytes at 0) w.if-byte-ne0.false) in
          record {
            bytes = c.loop-byte.invariant.bytes;
            len = ap len w.key-is ∙ c.loop-byte.invariant.len ∙ ap (λ more. len c.args.key.now + length more) (sym same);
            has = λ front is.
                subst (λ (k : _). has k (front ++ filter (λ byte. nat_lt 0 byte) (take (at + 1) bytes))) (sym w.key-is)
                (subst (λ more. has c.loop-byte.key (front ++ more)) (sym same) (c.loop-byte.invariant.has front is));
            beyond = subst (StaysBeyond len g.K.KeyWriter.beyond c.args.key.now) (sym w.key-is) c.loop-byte.invariant.beyond;
          }
    ]

pub returns : goal.returns
returns g c =
    let bytes = c.to_be_bytes-byte-items.result in
    let long : length bytes ≡ 8 = ap length c.to_be_bytes-byte-items.ensures in
    let all = ap (filter (λ byte. nat_lt 0 byte)) (take_all c.loop-byte.byte-index bytes (omega arith)) ∙ sym c.loop-byte.invariant.bytes in
    record {
      len = c.loop-byte.invariant.len ∙ ap (λ more. g.K.KeyWriter.len c.args.key.now + length more) all;
      has = λ front is. subst (λ more. g.K.KeyWriter.has c.loop-byte.key (front ++ more)) all (c.loop-byte.invariant.has front is);
      beyond = c.loop-byte.invariant.beyond;
    }
