use Rattle.std.proofs.Common.{◌≡◌, ◌≢◌, ℕ, true, false, ◌==◌, not, sym, ap, ◌∙◌, ne_eqb, arith}
use Rattle.std.proofs.lemmas.Bool.{leb-true}
use Rattle.std.proofs.lemmas.List.Sums.{AllPass-from_list_all, list_all-from_AllPass}
use Rattle.judy_sl.proofs.lemmas.pieces.PieceLemmas.{text_from_bytes, key_of_text}
use Rattle.judy_sl.proofs.lemmas.pieces.Strings.{key-within, key_of_string}
use Rattle.judy_sl.proofs.keys.is_key_of.Goals as goal

-- A byte that passes the test isn't zero,
some_byte : (byte : ℕ) → not (byte == 0) ≡ true → byte ≢ 0
some_byte byte passes none =
    let fails : not (byte == 0) ≡ false = ap (λ n. not (n == 0)) none in
    let both : true ≡ false = sym passes ∙ fails in
    cc

-- and the other way round.
passes : (byte : ℕ) → byte ≢ 0 → not (byte == 0) ≡ true
passes byte some = ap not (ne_eqb byte 0 some)

pub returns-then-bytes-LONGEST : goal.returns-then-bytes-LONGEST
returns-then-bytes-LONGEST g c = (
  λ is.
      let nonzero = AllPass-from_list_all (λ byte. not (byte == 0)) c.args.bytes.now (sym c.are_nonzero.ensures ∙ is) in
      let few = rw c.LONGEST.ensures at c.if-bytes-LONGEST.true in
      let most = g.L.KeyLength.in_memory in
      let text = text_from_bytes c.args.bytes.now c.type_inv.bytes (λ k d within. some_byte _ (nonzero k d within)) in
      key_of_string g.L.KeyLength c.args.bytes.now (key_of_text c.args.bytes.now text (omega (arith, few, most))) few,
  λ key. c.are_nonzero.ensures ∙ list_all-from_AllPass (λ byte. not (byte == 0)) c.args.bytes.now
      (λ k d within. passes _ ((g.L.KeyLength.string_of c.args.bytes.now key).without_zero k d within)),
)

pub returns-else-bytes-LONGEST : goal.returns-else-bytes-LONGEST
returns-else-bytes-LONGEST g c = (
  λ is. absurd (let few = leb-true _ _ is in let long = c.if-bytes-LONGEST.false in omega (arith, few, long)),
  λ key. absurd (let fits = key-within g.L.KeyLength c.args.bytes.now key in let long = rw c.LONGEST.ensures at c.if-bytes-LONGEST.false in omega (arith, fits, long)),
)
