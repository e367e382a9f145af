-- Key tokens by `hex` and by the definitions.
use Rattle.std.proofs.Common.{◌≡◌, ℕ, ◌+◌, ◌*◌, ◌-◌, ◌/◌, ◌%◌, ◌<◌, ◌≤◌, ◌==◌, Bool, true, false, cond, not, nat_le, List, [], ◌∷◌, length, Option, Some, None, Result, Ok, Err}
use Rattle.std.proofs.Common.{ok_or, suc, refl, sym, ap, ◌∙◌, arith, IfSome, take, drop}
use Rattle.std.specs.Prelude.{MatchResult, ◌&&◌, IfOk}
use Rattle.std.proofs.lemmas.Bool.{and_parts, eqb-true, false≢true}
use Rattle.std.proofs.lemmas.List.{take-append-drop, drop-drop}
use Rattle.std.proofs.lemmas.List.Folds.{list_all-append}
use Rattle.std.specs.List.{list_all}
use Rattle.std.specs.Result.{result_ok, is_err}
use Rattle.hex.specs.Hex.{hex_digit_value, digit_or_error, decode_pairs, decode_sized, ◌>>=◌}
use Rattle.hex.specs.declared.error.FromHexError.{FromHexError}
use Rattle.hex.proofs.HexLemmas.{decode_sized-twice, decode_of-even}
use Rattle.judy_model.specs.KeyTokens.{is_shown, key_of, digit_value, with_byte, bytes_of_digits, is_bytes_key, is_string_key, passing}
use Rattle.judy_model.specs.Replies.{Refusal, bad_key}
use Rattle.judy_model.specs.declared.keys.TheConstants.{LONGEST_KEY}
use Rattle.judy_command.specs.declared.reply.Refusal as refusals
use Rattle.judy_command.specs.KeyReads.{key_or_refusal}
use Rattle.judy_command.specs.Slots.{said}

-- ---- keys without a zero byte

abbrev without_zero : List ℕ → Bool
without_zero key = list_all (λ byte. not (byte == 0)) key

abbrev string_key : Option (List ℕ) → Result (List ℕ) Refusal
string_key said = ok_or (passing is_string_key said) bad_key

string_by : (short : Bool) (said key : List ℕ) (whole : Bool) → without_zero key ≡ whole → ok_or (cond short (Some said) None) bad_key ≡ Ok key →
    ok_or (cond (short && without_zero said) (Some said) None) bad_key ≡ cond whole (Ok key) (Err bad_key)
string_by true said key true e h = let same : said ≡ key = cc in rw (same, e) refl
string_by true said key false e h = let same : said ≡ key = cc in rw (same, e) refl
string_by false said key whole e h = absurd (cc)

-- a key that is short enough is one of a judysl array where it has no zero byte
pub string_key-from : (said : Option (List ℕ)) (key : List ℕ) (whole : Bool) → without_zero key ≡ whole → key_or_refusal said ≡ Ok key → string_key said ≡ cond whole (Ok key) (Err bad_key)
string_key-from None key whole e h = absurd (cc)
string_key-from (Some said) key whole e h = string_by (is_bytes_key said) said key whole e h

refused_by : (short whole : Bool) (said : List ℕ) (refusal : Refusal) → ok_or (cond short (Some said) None) bad_key ≡ Err refusal → ok_or (cond (short && whole) (Some said) None) bad_key ≡ Err refusal
refused_by true whole said refusal h = absurd (cc)
refused_by false whole said refusal h = h

pub string_key-refused : (said : Option (List ℕ)) (refusal : Refusal) → key_or_refusal said ≡ Err refusal → string_key said ≡ Err refusal
string_key-refused None refusal h = h
string_key-refused (Some said) refusal h = refused_by (is_bytes_key said) (without_zero said) said refusal h

-- ---- bytes that stand for themselves

pub shown_in_parts : (signs : List ℕ) (count : ℕ) → list_all is_shown signs ≡ (list_all is_shown (take count signs) && list_all is_shown (drop count signs))
shown_in_parts signs count =
    ap (list_all is_shown) (sym (take-append-drop count signs)) ∙ list_all-append is_shown (take count signs) (drop count signs)

-- where the bytes before a rest are such, the last few are where all are, if the rest is among them
by_last : (all last rest front middle : Bool) → all ≡ (front && last) → last ≡ (middle && rest) → rest ≡ all → last ≡ all
by_last true last rest true middle whole part same = sym whole
by_last true last rest false middle whole part same = absurd (cc)
by_last false last rest front true whole part same = part ∙ same
by_last false last rest front false whole part same = part

pub shown_by_last : (size : ℕ) (signs rest : List ℕ) → length rest ≤ size → size ≤ length signs → rest ≡ drop (length signs - length rest) signs → list_all is_shown rest ≡ list_all is_shown signs
    → list_all is_shown (drop (length signs - size) signs) ≡ list_all is_shown signs
shown_by_last size signs rest few many is same =
    let last = drop (length signs - size) signs in
    let among : drop (size - length rest) last ≡ rest = drop-drop (size - length rest) (length signs - size) signs ∙ ap (λ n. drop n signs) (omega arith) ∙ sym is in
    by_last (list_all is_shown signs) (list_all is_shown last) (list_all is_shown rest) (list_all is_shown (take (length signs - size) signs)) (list_all is_shown (take (size - length rest) last))
    (shown_in_parts signs (length signs - size))
    (shown_in_parts last (size - length rest) ∙ ap (λ t. list_all is_shown (take (size - length rest) last) && list_all is_shown t) among)
    same

-- such a byte isn't zero
shown_not_zero : (byte : ℕ) → is_shown byte ≡ true → not (byte == 0) ≡ true
shown_not_zero byte is =
    elim (byte == 0) as (λ b. (byte == 0) ≡ b → not b ≡ true) [
      | true ↦ λ zero. absurd (false≢true (ap is_shown (sym (eqb-true byte 0 zero)) ∙ is))
      | false ↦ λ _. refl
    ] refl

pub shown_without_zero : (signs : List ℕ) → list_all is_shown signs ≡ true → without_zero signs ≡ true
shown_without_zero [] are = refl
shown_without_zero (byte ∷ signs) are =
    let parts = and_parts (is_shown byte) (list_all is_shown signs) are in
    rw (shown_not_zero byte parts.0, shown_without_zero signs parts.1) refl

by_length : (short whole : Bool) (signs : List ℕ) → whole ≡ true → ok_or (cond short (Some signs) None) bad_key ≡ ok_or (cond (short && whole) (Some signs) None) bad_key
by_length true whole signs h = rw h refl
by_length false whole signs h = refl

-- so they are a key of a judysl array where they are one of a judyhs array
pub signs_of_string : (signs : List ℕ) → key_or_refusal (cond (list_all is_shown signs) (Some signs) None) ≡ string_key (cond (list_all is_shown signs) (Some signs) None)
signs_of_string signs =
    elim (list_all is_shown signs) as (λ b. list_all is_shown signs ≡ b → key_or_refusal (cond b (Some signs) None) ≡ string_key (cond b (Some signs) None)) [
      | true ↦ λ are. by_length (is_bytes_key signs) (without_zero signs) signs (shown_without_zero signs are)
      | false ↦ λ _. refl
    ] refl

pub string_of_signs : (token signs : List ℕ) → token ≡ 61 ∷ signs → key_or_refusal (cond (list_all is_shown signs) (Some signs) None) ≡ string_key (key_of token)
string_of_signs token signs is = signs_of_string signs ∙ ap (λ token. string_key (key_of token)) (sym is)

-- what holds of the key that was said holds of the key
pub IfOk-said : {A K : Type 0} (key_of : A → K) (P : K → Type 0) (key : Result A refusals.Refusal) → IfOk (said key_of key) P → IfOk key (λ key. P (key_of key))
IfOk-said key_of P (Ok key) h = h
IfOk-said key_of P (Err refusal) h = tt

-- ---- hexadecimal digits

digit_value-hex : (sign : ℕ) → digit_value sign ≡ hex_digit_value sign
digit_value-hex sign = grind (arith)

by_pair : (i high low : ℕ) (h l : Option ℕ) (rest : Result (List ℕ) FromHexError)
    → with_byte h l (result_ok rest) ≡ result_ok ((digit_or_error high i h >>= (λ one. digit_or_error low (i + 1) l >>= (λ two. Ok (one * 16 + two)))) >>=
    (λ byte. rest >>= (λ bytes. Ok (byte ∷ bytes))))
by_pair i high low (Some one) (Some two) (Ok bytes) = refl
by_pair i high low (Some one) (Some two) (Err error) = refl
by_pair i high low (Some one) None rest = refl
by_pair i high low None l rest = refl

-- pairs of digits write the same bytes
bytes_of_digits-decode_pairs : (i : ℕ) (signs : List ℕ) → bytes_of_digits signs ≡ result_ok (decode_pairs i signs)
unfolding decode_pairs
bytes_of_digits-decode_pairs i [] = refl
bytes_of_digits-decode_pairs i (sign ∷ []) = refl
bytes_of_digits-decode_pairs i (high ∷ low ∷ signs) =
    rw (bytes_of_digits-decode_pairs (i + 2) signs, digit_value-hex high, digit_value-hex low)
    (by_pair i high low (hex_digit_value high) (hex_digit_value low) (decode_pairs (i + 2) signs))

with_byte-none : (high low : Option ℕ) → with_byte high low None ≡ None
with_byte-none (Some high) (Some low) = refl
with_byte-none (Some high) None = refl
with_byte-none None low = refl

odd : (signs : List ℕ) → length signs % 2 ≡ 1 → bytes_of_digits signs ≡ None
odd [] h = absurd (omega arith)
odd (sign ∷ []) h = refl
odd (high ∷ low ∷ signs) h = rw (odd signs (omega arith)) (with_byte-none (digit_value high) (digit_value low))

-- they are two digits a byte
twice : (high low : Option ℕ) (count : ℕ) (bytes : Option (List ℕ)) → IfSome bytes (λ bytes. count ≡ 2 * length bytes) → IfSome (with_byte high low bytes) (λ bytes. suc (suc count) ≡ 2 * length bytes)
twice (Some high) (Some low) count (Some bytes) h = omega arith
twice (Some high) (Some low) count None h = tt
twice (Some high) None count bytes h = tt
twice None low count bytes h = tt

length-bytes_of_digits : (signs : List ℕ) → IfSome (bytes_of_digits signs) (λ bytes. length signs ≡ 2 * length bytes)
length-bytes_of_digits [] = refl
length-bytes_of_digits (sign ∷ []) = tt
length-bytes_of_digits (high ∷ low ∷ signs) = twice (digit_value high) (digit_value low) (length signs) (bytes_of_digits signs) (length-bytes_of_digits signs)

too_long : (said : Option (List ℕ)) (count : ℕ) → LONGEST_KEY < count / 2 → IfSome said (λ bytes. count ≡ 2 * length bytes) → Err bad_key ≡ key_or_refusal said
too_long None count long h = refl
too_long (Some bytes) count long h =
    let more : LONGEST_KEY < length bytes = omega arith in
    let over : nat_le (length bytes) LONGEST_KEY ≡ false = grind (arith, more) in
    rw over refl

-- more digits than a key has
pub digits-too_long : (signs : List ℕ) → LONGEST_KEY < length signs / 2 → Err bad_key ≡ key_or_refusal (bytes_of_digits signs)
digits-too_long signs long = too_long (bytes_of_digits signs) (length signs) long (length-bytes_of_digits signs)

-- ---- what decoding into half as many bytes gives

whole : (signs : List ℕ) (n : ℕ) → n ≡ length signs / 2 → bytes_of_digits signs ≡ result_ok (decode_sized signs n)
whole signs n half =
    elim (length signs % 2 == 1) as (λ b. (length signs % 2 == 1) ≡ b → bytes_of_digits signs ≡ result_ok (decode_sized signs n)) [
      | true ↦ λ is. rw (odd signs (grind (arith, is)), is) refl
      | false ↦ λ isnt.
          let even : length signs % 2 ≡ 0 = grind (arith, isnt) in
          bytes_of_digits-decode_pairs 0 signs ∙ ap result_ok (sym (decode_sized-twice signs n (omega (arith, even, half)) ∙ decode_of-even signs even))
    ] refl

module _ (signs out : List ℕ) (n : ℕ) (half : n ≡ length signs / 2) (result : Result (Unit {0}) FromHexError) where
  gave : (decoded : Result (List ℕ) FromHexError) → MatchResult decoded (λ bytes. (result ≡ Ok tt) × (out ≡ bytes)) (λ error. result ≡ Err error) → is_err result ≡ false → result_ok decoded ≡ Some out
  gave (Ok bytes) h fine = ap Some (sym h.1)
  gave (Err error) h fine = absurd (cc)

  refused : (decoded : Result (List ℕ) FromHexError) → MatchResult decoded (λ bytes. (result ≡ Ok tt) × (out ≡ bytes)) (λ error. result ≡ Err error) → is_err result ≡ true → result_ok decoded ≡ None
  refused (Ok bytes) h failed = absurd (cc)
  refused (Err error) h failed = refl

  pub digits-decoded : MatchResult (decode_sized signs n) (λ bytes. (result ≡ Ok tt) × (out ≡ bytes)) (λ error. result ≡ Err error) → is_err result ≡ false → bytes_of_digits signs ≡ Some out
  digits-decoded h fine = whole signs n half ∙ gave (decode_sized signs n) h fine

  pub digits-refused : MatchResult (decode_sized signs n) (λ bytes. (result ≡ Ok tt) × (out ≡ bytes)) (λ error. result ≡ Err error) → is_err result ≡ true → bytes_of_digits signs ≡ None
  digits-refused h failed = whole signs n half ∙ refused (decode_sized signs n) h failed
