-- Arrays and stores: what is read of a dump is spelled so, and what is spelled so is read.
use Rattle.std.proofs.Common.{◌≡◌, ℕ, zero, suc, ◌+◌, ◌^◌, ◌<◌, ◌≤◌, Bool, true, false, cond, ◌&&◌, ◌||◌, ◌==◌, ◌⊎◌, inl, inr, ⊎_elim, IsTrue, leb, ltb, List, [], ◌∷◌, ◌++◌}
use Rattle.std.proofs.Common.{length, Option, Some, None, Result, Ok, Err, is_none, is_some, refl, sym, ap, subst, ◌∙◌, append_assoc, append-nil, arith, All}
use Rattle.std.specs.Prelude.{bytes_eq, ◌↔◌}
use Rattle.std.specs.Result.{result_err}
use Rattle.std.specs.declared.cmp.Ordering.{Ordering}
use Rattle.std.specs.FinMap.{len}
use Rattle.std.specs.List.{flat_map, list_all, list_any, IsDistinct, AllByRecursion}
use Rattle.std.specs.Char.{is_ascii_alphanumeric}
use Rattle.std.specs.Int.{is_in_range}
use Rattle.std.specs.Map.{keys_of, values_of}
use Rattle.std.proofs.lemmas.Bool.{eqb-true, ltb-true, lt-ltb, leb-true, le-leb, and_parts}
use Rattle.std.proofs.lemmas.Cmp.{nat_list_eq_equiv}
use Rattle.std.proofs.lemmas.List.{length-append, map-append}
use Rattle.std.proofs.lemmas.List.Elements.{All-head, All-tail}
use Rattle.std.proofs.lemmas.Map.Keys.{IsDistinct-head, IsDistinct-tail}
use Rattle.std.proofs.lemmas.Map.Made.{is_some-lookup}
use Rattle.std.specs.Cmp.Lexicographic.{same_text}
use Rattle.judy_model.specs.Keys.{IsByteString}
use Rattle.judy_model.specs.Arrays.{ArrayOf, IsArrayOf, ArrayValue, judy1, judyl, judysl, judyhs, IsArray, limit_of, len_of}
use Rattle.judy_model.specs.Tokens.{is_name, is_name_byte}
use Rattle.judy_model.specs.Stores.{Store, IsStore, IsRegular, array_named, with_new_array}
use Rattle.judy_model.specs.WordBytes.{low_bytes}
use Rattle.judy_model.specs.Fields.{Flaw, bad_name, same_name, bad_kind, bad_limit, bad_count, bad_magic, too_many, Parser, followed_by, value_of, end, ◌>>=◌, done, bytes, number, field}
use Rattle.judy_model.specs.DumpText as text
use Rattle.judy_model.specs.DumpText.{Version, jdy1, jdy2, magic, array_text, dump_of, kind_number}
use Rattle.judy_model.specs.DumpGrammar as grammar
use Rattle.judy_model.specs.DumpGrammar.{is_name_length, is_new, is_kind, is_limit, is_magic, version_of, IsDump, read_of, flaw_of}
use Rattle.judy_model.proofs.lemmas.dumps.FieldLemmas.{IsSpelled, Passes, sequence-IsSpelled, done-IsSpelled, field-IsSpelled, number-IsSpelled, bytes-IsSpelled, followed_ok, done_ok}
use Rattle.judy_model.proofs.lemmas.dumps.StringKeys.{All-from_test}
use Rattle.judy_model.proofs.lemmas.dumps.KindLemmas.{contents-IsSpelled}
use Rattle.judy_model.proofs.lemmas.runs.StoresKept.{IsStore-lasts, IsRegular-lasts, IsStore-none, IsRegular-none}

-- ---- names

either : (a b : Bool) → (a || b) ≡ true → (a ≡ true) ⊎ (b ≡ true)
either true b is = inl refl
either false b is = inr is

within : (low high byte : ℕ) → high < 256 → is_in_range low high byte ≡ true → byte < 256
within low high byte small is = let below = leb-true byte high (and_parts (leb low byte) (leb byte high) is).1 in omega arith

name_byte_is_byte : (byte : ℕ) → is_name_byte byte ≡ true → byte < 256
name_byte_is_byte byte is =
    ⊎_elim
    (λ other. ⊎_elim
    (λ letter. ⊎_elim
    (λ more. ⊎_elim (λ digit. within 48 57 byte (omega arith) digit) (λ upper. within 65 90 byte (omega arith) upper) (either (is_in_range 48 57 byte) (is_in_range 65 90 byte) more))
    (λ lower. within 97 122 byte (omega arith) lower)
    (either (is_in_range 48 57 byte || is_in_range 65 90 byte) (is_in_range 97 122 byte) letter))
    (λ line. let e = eqb-true byte 95 line in omega arith)
    (either (is_ascii_alphanumeric byte) (byte == 95) other))
    (λ dash. let e = eqb-true byte 45 dash in omega arith)
    (either (is_ascii_alphanumeric byte || byte == 95) (byte == 45) is)

-- A name that no array before it has.
abbrev IsNewName : Store → List ℕ → Type 0
IsNewName earlier name = IsTrue (is_name name) × IsTrue (is_new earlier name)

name-IsSpelled : (earlier : Store) → IsSpelled (IsNewName earlier) text.name_text (grammar.name earlier)
name-IsSpelled earlier =
    let lengths : List ((ℕ → Bool) × Flaw) = (is_name_length, bad_name) ∷ [] in
    let names : List ((List ℕ → Bool) × Flaw) = (list_all is_name_byte, bad_name) ∷ (is_new earlier, same_name) ∷ [] in
    sequence-IsSpelled _ (low_bytes 1) (field (number 1) lengths) _ (λ long name. name) (λ long. field (bytes long) names) (IsNewName earlier) text.name_text
    (field-IsSpelled _ (low_bytes 1) (number 1) lengths (number-IsSpelled 1))
    (λ long _. field-IsSpelled _ (λ name. name) (bytes long) names (bytes-IsSpelled long))
    (λ name is.
    let both = and_parts (is_name_length (length name)) (list_all is_name_byte name) is.0 in
    let short = leb-true (length name) 32 (and_parts (ltb 0 (length name)) (leb (length name) 32) both.0).1 in
    (length name, (omega arith, (both.0, tt)), ((refl, All-from_test is_name_byte (λ byte. byte < 256) name_byte_is_byte name both.1), (both.1, (is.1, tt))), refl))
    (λ long name p q.
    let same : length name ≡ long = q.0.0 in
    ((ap (λ n. is_name_length n && list_all is_name_byte name) same ∙ (λ t. p.1.0 t && q.1.0 t), q.1.1.0), ap (λ n. low_bytes 1 n ++ name) same))

-- ---- arrays

-- What an array's limit and its number of keys are.
record Bounds (array : ArrayValue) : Type 0 where
  some : 1 ≤ limit_of array
  within : len_of array ≤ limit_of array

bounds_of : {K : Type 0} {order : K → K → Ordering} {IsKey : K → Type 0} (made : ArrayOf order → ArrayValue) (inside : ArrayOf order) → IsArrayOf IsKey inside →
    limit_of (made inside) ≡ inside.limit → len_of (made inside) ≡ len inside.map → Bounds (made inside)
bounds_of made inside is same long = let some = is.holds_some in let within = is.within_limit in record { some = omega arith; within = omega arith }

bounds : (array : ArrayValue) → IsArray array → Bounds array
bounds (judy1 inside) is = bounds_of judy1 inside is.0 refl refl
bounds (judyl inside) is = bounds_of judyl inside is refl refl
bounds (judysl inside) is = bounds_of judysl inside is refl refl
bounds (judyhs inside) is = bounds_of judyhs inside is refl refl

known_kind : (array : ArrayValue) → is_kind (kind_number array) ≡ true
known_kind (judy1 inside) = refl
known_kind (judyl inside) = refl
known_kind (judysl inside) = refl
known_kind (judyhs inside) = refl

kind_is_byte : (array : ArrayValue) → kind_number array < 256 ^ 1
kind_is_byte (judy1 inside) = omega arith
kind_is_byte (judyl inside) = omega arith
kind_is_byte (judysl inside) = omega arith
kind_is_byte (judyhs inside) = omega arith

-- An array behind its kind, and behind its limit too.
abbrev IsCounted : ℕ → ℕ → ArrayValue → Type 0
IsCounted kind limit array = (kind_number array ≡ kind) × (limit_of array ≡ limit) × IsArray array

abbrev IsLimited : ℕ → ArrayValue → Type 0
IsLimited kind array = (kind_number array ≡ kind) × (limit_of array ≤ 4294967295) × IsArray array

-- An array with a limit that scripts give.
abbrev IsBody : ArrayValue → Type 0
IsBody array = IsArray array × (limit_of array ≤ 4294967295)

counted-IsSpelled : (version : Version) (kind limit : ℕ) → is_kind kind ≡ true → 1 ≤ limit → limit ≤ 4294967295 →
    IsSpelled (IsCounted kind limit) (λ array. text.word (len_of array) ++ text.contents version array) (grammar.key_count limit >>= grammar.contents version kind limit)
counted-IsSpelled version kind limit known some small =
    let checks : List ((ℕ → Bool) × Flaw) = ((λ count. leb count limit), bad_count) ∷ [] in
    sequence-IsSpelled _ text.word (field (number 8) checks) (λ count array. (kind_number array ≡ kind) × (limit_of array ≡ limit) × (len_of array ≡ count) × IsArray array)
    (λ count. text.contents version) (grammar.contents version kind limit) (IsCounted kind limit) (λ array. text.word (len_of array) ++ text.contents version array)
    (field-IsSpelled _ text.word (number 8) checks (number-IsSpelled 8))
    (λ count p. contents-IsSpelled version limit count some small (leb-true count limit p.1.0) kind known)
    (λ array is.
    let b = bounds array is.2 in let within = b.within in let same = is.1 in
    let enough : len_of array ≤ limit = omega arith in
    (len_of array, (omega arith, (le-leb (len_of array) limit enough, tt)), (is.0, is.1, refl, is.2), refl))
    (λ count array p q. ((q.0, q.1, q.3), ap (λ n. text.word n ++ text.contents version array) q.2))

limited-IsSpelled : (version : Version) (kind : ℕ) → is_kind kind ≡ true → IsSpelled (IsLimited kind)
    (λ array. text.word (limit_of array) ++ text.word (len_of array) ++ text.contents version array) (grammar.limit >>= λ limit. grammar.key_count limit >>= grammar.contents version kind limit)
limited-IsSpelled version kind known =
    let checks : List ((ℕ → Bool) × Flaw) = (is_limit, bad_limit) ∷ [] in
    let bounded : (limit : ℕ) → is_limit limit ≡ true → (1 ≤ limit) × (limit ≤ 4294967295) = λ limit is.
    let both = and_parts (ltb 0 limit) (leb limit 4294967295) is in
    let above = ltb-true 0 limit both.0 in (omega arith, leb-true limit 4294967295 both.1) in
    sequence-IsSpelled _ text.word (field (number 8) checks) (λ limit. IsCounted kind limit) (λ limit array. text.word (len_of array) ++ text.contents version array)
    (λ limit. grammar.key_count limit >>= grammar.contents version kind limit) (IsLimited kind) (λ array. text.word (limit_of array) ++ text.word (len_of array) ++ text.contents version array)
    (field-IsSpelled _ text.word (number 8) checks (number-IsSpelled 8))
    (λ limit p. let b = bounded limit p.1.0 in counted-IsSpelled version kind limit known b.0 b.1)
    (λ array is.
    let b = bounds array is.2 in let some = b.some in let small = is.1 in
    (limit_of array, (omega arith, ((λ t. lt-ltb 0 (limit_of array) (omega arith) t && le-leb (limit_of array) 4294967295 small t), tt)), (is.0, refl, is.2), refl))
    (λ limit array p q.
    let b = bounded limit p.1.0 in
    ((q.0, subst (λ l. l ≤ 4294967295) (sym q.1) b.1, q.2), ap (λ n. text.word n ++ text.word (len_of array) ++ text.contents version array) q.1))

body-IsSpelled : (version : Version) → IsSpelled IsBody (text.body version) (grammar.body version)
body-IsSpelled version =
    let checks : List ((ℕ → Bool) × Flaw) = (is_kind, bad_kind) ∷ [] in
    let later : ArrayValue → List ℕ = λ array. text.word (limit_of array) ++ text.word (len_of array) ++ text.contents version array in
    sequence-IsSpelled _ (low_bytes 1) (field (number 1) checks) IsLimited (λ kind. later) (λ kind. grammar.limit >>= λ limit. grammar.key_count limit >>=
    grammar.contents version kind limit) IsBody (text.body version)
    (field-IsSpelled _ (low_bytes 1) (number 1) checks (number-IsSpelled 1))
    (λ kind p. limited-IsSpelled version kind p.1.0)
    (λ array is. (kind_number array, (kind_is_byte array, (known_kind array, tt)), (refl, is.1, is.0), refl))
    (λ kind array p q. ((q.2, q.1), ap (λ n. low_bytes 1 n ++ later array) q.0))

array-IsSpelled : (version : Version) (earlier : Store) → IsSpelled (λ array. IsNewName earlier array.0 × IsBody array.1) (array_text version) (grammar.array version earlier)
array-IsSpelled version earlier =
    sequence-IsSpelled (IsNewName earlier) text.name_text (grammar.name earlier) (λ name array. (array.0 ≡ name) × IsBody array.1) (λ name array. text.body version array.1)
    (λ name. grammar.body version >>= λ held. done (name, held)) (λ array. IsNewName earlier array.0 × IsBody array.1) (array_text version)
    (name-IsSpelled earlier)
    (λ name _. sequence-IsSpelled IsBody (text.body version) (grammar.body version) (λ held array. array ≡ (name, held)) (λ held array. []) (λ held. done (name, held))
    (λ array. (array.0 ≡ name) × IsBody array.1) (λ array. text.body version array.1)
    (body-IsSpelled version)
    (λ held _. done-IsSpelled (name, held))
    (λ array is. (array.1, is.1, (λ t. (is.0 t, array.1)), sym (append-nil (text.body version array.1))))
    (λ held array p same. ((ap (λ pair. pair.0) same, subst IsBody (sym (ap (λ pair. pair.1) same)) p), ap (λ pair. text.body version pair.1) same ∙ sym (append-nil (text.body version held)))))
    (λ array is. (array.0, is.0, (refl, is.1), refl))
    (λ name array p q. ((subst (IsNewName earlier) (sym q.0) p, q.1), ap (λ n. text.name_text n ++ text.body version array.1) q.0))

-- ---- stores

abbrev IsGood : Store → Type 0
IsGood store = IsStore store × IsRegular store

module _ (earlier : Store) (name : List ℕ) (held : ArrayValue) where
  -- One more array that is read is one more of a store.
  good_more : length earlier < 64 → IsNewName earlier name → IsBody held → IsGood earlier → IsGood (with_new_array earlier name held)
  good_more room new body is =
      (IsStore-lasts.with_new_array earlier name held new.0 new.1 room body.0 body.1 is.0, IsRegular-lasts.with_new_array earlier name held new.0 new.1 room body.0 body.1 is.1)

arrays_back : (version : Version) (count : ℕ) (earlier : Store) (input : List ℕ) (store : Store) (rest : List ℕ) → length earlier + count ≤ 64 → IsGood earlier →
    IsByteString input → grammar.arrays version earlier count input ≡ Ok (store, rest)
    → (later : Store) × (store ≡ earlier ++ later) × (length later ≡ count) × (input ≡ flat_map (array_text version) later ++ rest) × IsGood store × IsByteString rest
arrays_back version zero earlier input store rest room good are is =
    let d = done_ok earlier input store rest is in
    ([], sym d.0 ∙ sym (append-nil earlier), refl, d.1, subst IsGood d.0 good, subst IsByteString d.1 are)
arrays_back version (suc count) earlier input store rest room good are is =
    let f = followed_ok (grammar.array version earlier input) (λ next. grammar.arrays version (with_new_array earlier next.0 next.1) count) (store, rest) is in
    let next = f.0.0 in
    let b = (array-IsSpelled version earlier).back input next f.0.1 are f.1 in
    let more = with_new_array earlier next.0 next.1 in
    let long : length more ≡ length earlier + 1 = length-append earlier (next ∷ []) in
    let c = arrays_back version count more f.0.1 store rest (omega arith) (good_more earlier next.0 next.1 (omega arith) b.1.0 b.1.1 good) b.2 f.2 in (
      next ∷ c.0,
      c.1 ∙ append_assoc earlier (next ∷ []) c.0,
      ap suc c.2,
      b.0 ∙ ap (λ t. array_text version next ++ t) c.3 ∙ sym (append_assoc (array_text version next) (flat_map (array_text version) c.0) rest),
      c.4,
      c.5,
    )

absent : {A : Type 0} (o : Option A) → is_some o ≡ false → is_none o ≡ true
absent None e = refl
absent (Some value) e = absurd cc

in_middle : {X : Type 0} (P : X → Type 0) (here : X) (after before : List X) → AllByRecursion P (before ++ here ∷ after) → P here
in_middle P here after [] all = all.0
in_middle P here after (first ∷ before) all = in_middle P here after before all.1

-- The key in the middle is none of those before it.
module _ (key : List ℕ) (after : List (List ℕ)) where
  none_before : (before : List (List ℕ)) → IsDistinct bytes_eq (before ++ key ∷ after) → list_any (bytes_eq key) before ≡ false
  none_before [] differ = refl
  none_before (first ∷ before) differ =
      let apart : bytes_eq first key ≡ false = in_middle (λ other. bytes_eq first other ≡ false) key after before (IsDistinct-head bytes_eq first (before ++ key ∷ after) differ) in
      let turned : bytes_eq key first ≡ false = nat_list_eq_equiv.symm key first ∙ apart in
      (λ t. turned t || list_any (bytes_eq key) before) ∙ none_before before (IsDistinct-tail bytes_eq first (before ++ key ∷ after) differ)

module _ {X : Type 0} (P : X → Type 0) (here : X) (after : List X) where
  -- What holds of each holds of the one in the middle.
  at_middle : (before : List X) → All P (before ++ here ∷ after) → P here
  at_middle [] all = All-head P here after all
  at_middle (first ∷ before) all = at_middle before (All-tail P first (before ++ here ∷ after) all)

module _ (earlier : Store) (next : List ℕ × ArrayValue) (later : Store) where
  keys_in_a_row : keys_of (earlier ++ next ∷ later) ≡ keys_of earlier ++ next.0 ∷ keys_of later
  keys_in_a_row = map-append (λ (pair : List ℕ × ArrayValue). pair.0) earlier (next ∷ later)

  values_in_a_row : values_of (earlier ++ next ∷ later) ≡ values_of earlier ++ next.1 ∷ values_of later
  values_in_a_row = map-append (λ (pair : List ℕ × ArrayValue). pair.1) earlier (next ∷ later)

  -- An array of a store has a name that no array before it has.
  new_of_store : IsStore (earlier ++ next ∷ later) → IsNewName earlier next.0
  new_of_store is =
      let apart = none_before next.0 (keys_of later) (keys_of earlier) (subst (IsDistinct bytes_eq) keys_in_a_row is.names_differ) in (
        at_middle (λ name. IsTrue (is_name name)) next.0 (keys_of later) (keys_of earlier) (subst (All (λ name. IsTrue (is_name name))) keys_in_a_row is.names_are),
        absent (array_named earlier next.0) (is_some-lookup (bytes_eq next.0) earlier ∙ apart),
      )

  body_of_store : IsGood (earlier ++ next ∷ later) → IsBody next.1
  body_of_store is = (
    at_middle IsArray next.1 (values_of later) (values_of earlier) (subst (All IsArray) values_in_a_row is.0.arrays_are),
    at_middle (λ array. limit_of array ≤ 4294967295) next.1 (values_of later) (values_of earlier) (subst (All (λ array. limit_of array ≤ 4294967295)) values_in_a_row is.1),
  )

arrays_again : (version : Version) (later earlier : Store) (rest : List ℕ) → IsGood (earlier ++ later) →
    grammar.arrays version earlier (length later) (flat_map (array_text version) later ++ rest) ≡ Ok (earlier ++ later, rest)
arrays_again version [] earlier rest good = ap (λ store. Ok (store, rest)) (sym (append-nil earlier))
arrays_again version (next ∷ later) earlier rest good =
    let more = with_new_array earlier next.0 next.1 in
    let together : earlier ++ next ∷ later ≡ more ++ later = sym (append_assoc earlier (next ∷ []) later) in
    let one = (array-IsSpelled version earlier).again next (flat_map (array_text version) later ++ rest) (new_of_store earlier next later good.0, body_of_store earlier next later good) in
    ap (grammar.arrays version earlier (suc (length later))) (append_assoc (array_text version next) (flat_map (array_text version) later) rest)
    ∙ ap (λ read. followed_by read (λ next. grammar.arrays version (with_new_array earlier next.0 next.1) (length later))) one
    ∙ arrays_again version later more rest (subst IsGood together good)
    ∙ ap (λ store. Ok (store, rest)) (sym together)

-- ---- dumps

value_of_ok : {A : Type 0} (read : Result (A × List ℕ) Flaw) (value : A) → value_of read ≡ Ok value → (rest : List ℕ) × (read ≡ Ok (value, rest))
value_of_ok {A} (Ok given) value is = let same : given.0 ≡ value = cc in (given.1, ap (λ (v : A). Ok (v, given.1)) same)
value_of_ok (Err flaw) value is = absurd cc

end_ok : (input : List ℕ) (given : Unit {0} × List ℕ) → end input ≡ Ok given → input ≡ []
end_ok [] given is = refl
end_ok (byte ∷ input) given is = absurd cc

-- Numbers that are bytes, by a test of each.
pub bytes_are : (read : List ℕ) → list_all (λ byte. ltb byte 256) read ≡ true → IsByteString read
bytes_are = All-from_test (λ byte. ltb byte 256) (λ byte. byte < 256) (λ byte is. ltb-true byte 256 is)

abbrev magic_checks : List ((List ℕ → Bool) × Flaw)
magic_checks = (is_magic, bad_magic) ∷ []

abbrev count_checks : List ((ℕ → Bool) × Flaw)
count_checks = ((λ count. leb count 64), too_many) ∷ []

-- The name of a format is four bytes, names one, and that one.
magic_named : (version : Version) → ((length (magic version) ≡ 4) × IsByteString (magic version)) × Passes magic_checks (magic version)
magic_named jdy1 = ((refl, bytes_are (magic jdy1) refl), (refl, tt))
magic_named jdy2 = ((refl, bytes_are (magic jdy2) refl), (refl, tt))

version_of-magic : (version : Version) → version ≡ version_of (magic version)
version_of-magic jdy1 = refl
version_of-magic jdy2 = refl

magic_by_tests : (one two : Bool) (named : List ℕ) → (one ≡ true → named ≡ magic jdy1) → (two ≡ true → named ≡ magic jdy2) → (one || two) ≡ true → named ≡ magic (cond one jdy1 jdy2)
magic_by_tests true two named first second is = first refl
magic_by_tests false two named first second is = second is

-- Bytes that name a format are its name.
magic-version_of : (named : List ℕ) → is_magic named ≡ true → named ≡ magic (version_of named)
magic-version_of named is =
    magic_by_tests (bytes_eq (magic jdy1) named) (bytes_eq (magic jdy2) named) named (λ same. sym (same_text (magic jdy1) named (sym same))) (λ same. sym (same_text (magic jdy2) named (sym same))) is

begins-IsSpelled : IsSpelled (λ (version : Version). Unit {0}) magic grammar.begins
begins-IsSpelled =
    sequence-IsSpelled (λ named. ((length named ≡ 4) × IsByteString named) × Passes magic_checks named) (λ named. named) (field (bytes 4) magic_checks)
    (λ named version. version ≡ version_of named) (λ named version. []) (λ named. done (version_of named)) (λ version. Unit {0}) magic
    (field-IsSpelled _ (λ named. named) (bytes 4) magic_checks (bytes-IsSpelled 4))
    (λ named _. done-IsSpelled (version_of named))
    (λ version _. (magic version, magic_named version, version_of-magic version, sym (append-nil (magic version))))
    (λ named version p same. (tt, ap magic same ∙ sym (magic-version_of named p.1.0) ∙ sym (append-nil named)))

count-IsSpelled : IsSpelled (λ count. (count < 256 ^ 4) × Passes count_checks count) (low_bytes 4) (field (number 4) count_checks)
count-IsSpelled = field-IsSpelled _ (low_bytes 4) (number 4) count_checks (number-IsSpelled 4)

abbrev at_last : Version → Store → Parser (Version × Store)
at_last version made = end >>= λ _. done (version, made)

abbrev after_count : Version → ℕ → Parser (Version × Store)
after_count version count = grammar.arrays version [] count >>= at_last version

abbrev after_magic : Version → Parser (Version × Store)
after_magic version = field (number 4) count_checks >>= after_count version

last_back : (version : Version) (made : Store) (input : List ℕ) (read : Version × Store) (rest : List ℕ) → at_last version made input ≡ Ok (read, rest) → (input ≡ []) × ((version, made) ≡ read)
last_back version made input read rest is =
    let f = followed_ok (end input) (λ _. done (version, made)) (read, rest) is in
    (end_ok input f.0 f.1, (done_ok (version, made) f.0.1 read rest f.2).0)

whole_text : (version : Version) (input : List ℕ) (count : ℕ) (texts left : List ℕ) (later store : Store) → input ≡ low_bytes 4 count ++ texts →
    texts ≡ flat_map (array_text version) later ++ left → left ≡ [] → length later ≡ count → later ≡ store → IsGood store
    → (input ≡ low_bytes 4 (length store) ++ flat_map (array_text version) store) × IsGood store
whole_text version input count texts left later store counted listed nothing long same good =
    let write = flat_map (array_text version) in
    let arrays : texts ≡ write store = listed ∙ (λ t. write later ++ nothing t) ∙ append-nil (write later) ∙ ap write same in
    let number : count ≡ length store = sym long ∙ ap length same in
    (counted ∙ (λ t. low_bytes 4 (number t) ++ arrays t), good)

count_back : (version : Version) (input : List ℕ) (read : Version × Store) (rest : List ℕ) → IsByteString input → after_magic version input ≡ Ok (read, rest) →
    (version ≡ read.0) × (input ≡ low_bytes 4 (length read.1) ++ flat_map (array_text version) read.1) × IsGood read.1
count_back version input read rest are is =
    let f = followed_ok (field (number 4) count_checks input) (after_count version) (read, rest) is in
    let n = count-IsSpelled.back input f.0.0 f.0.1 are f.1 in
    let g = followed_ok (grammar.arrays version [] f.0.0 f.0.1) (at_last version) (read, rest) f.2 in
    let few = leb-true f.0.0 64 n.1.1.0 in
    let a = arrays_back version f.0.0 [] f.0.1 g.0.0 g.0.1 (omega arith) (IsStore-none, IsRegular-none) n.2 g.1 in
    let l = last_back version g.0.0 g.0.1 read rest g.2 in
    let made : g.0.0 ≡ read.1 = ap (λ (pair : Version × Store). pair.1) l.1 in
    let w = whole_text version input f.0.0 f.0.1 g.0.1 a.0 read.1 n.0 a.3 l.0 a.2 (sym a.1 ∙ made) (subst IsGood made a.4) in
    (ap (λ (pair : Version × Store). pair.0) l.1, w.0, w.1)

-- What is read is the dump, in the format that it names, of the store that it gives, which is a store, and regular.
pub dump_back : (version : Version) (dump : List ℕ) (store : Store) → IsByteString dump → IsDump version dump store → (dump ≡ dump_of version store) × IsStore store × IsRegular store
dump_back version dump store are is =
    let e = value_of_ok (grammar.store dump) (version, store) is in
    let f = followed_ok (grammar.begins dump) after_magic ((version, store), e.0) e.1 in
    let m = begins-IsSpelled.back dump f.0.0 f.0.1 are f.1 in
    let c = count_back f.0.0 f.0.1 (version, store) e.0 m.2 f.2 in
    let named : f.0.0 ≡ version = c.0 in
    let counted = low_bytes 4 (length store) in
    let parts : dump ≡ magic version ++ (counted ++ flat_map (array_text version) store) = m.0 ∙ ap (λ rest. magic f.0.0 ++ rest) c.1 ∙
    ap (λ v. magic v ++ (counted ++ flat_map (array_text v) store)) named in
    (parts ∙ sym (append_assoc (magic version) counted (flat_map (array_text version) store)), c.2.0, c.2.1)

-- The dump of a regular store gives it.
pub dump_again : (version : Version) (store : Store) → IsStore store → IsRegular store → IsDump version (dump_of version store) store
dump_again version store is regular =
    let texts = flat_map (array_text version) store in
    let few = is.within_limit in
    let one = begins-IsSpelled.again version (low_bytes 4 (length store) ++ texts) tt in
    let two = count-IsSpelled.again (length store) texts (omega arith, (le-leb (length store) 64 few, tt)) in
    let three : grammar.arrays version [] (length store) texts ≡ Ok (store, []) = ap (grammar.arrays version [] (length store)) (sym (append-nil texts)) ∙
    arrays_again version store [] [] (is, regular) in
    ap value_of (ap grammar.store (append_assoc (magic version) (low_bytes 4 (length store)) texts) ∙ ap (λ read. followed_by read after_magic) one ∙
    ap (λ read. followed_by read (after_count version)) two ∙ ap (λ read. followed_by read (at_last version)) three)

one_ok : {A : Type 0} (read : Result A Flaw) (one other : A) → read ≡ Ok one → read ≡ Ok other → one ≡ other
one_ok {A} (Ok given) one other is also = let same : ◌≡◌ {A = Result A Flaw} (Ok one) (Ok other) = sym is ∙ also in cc
one_ok (Err flaw) one other is also = absurd cc

-- Bytes give one store at most, in one format.
pub one_store : (one_version other_version : Version) (dump : List ℕ) (store other : Store) → IsDump one_version dump store → IsDump other_version dump other →
    (one_version ≡ other_version) × (store ≡ other)
one_store one_version other_version dump store other is also =
    let same = one_ok (read_of dump) (one_version, store) (other_version, other) is also in
    (ap (λ (pair : Version × Store). pair.0) same, ap (λ (pair : Version × Store). pair.1) same)

no_flaw : (read : Result (Version × Store) Flaw) → ((version : Version) × (store : Store) × (read ≡ Ok (version, store))) ↔ (result_err read ≡ None)
no_flaw (Ok given) = ((λ _. refl), λ _. (given.0, given.1, refl))
no_flaw (Err flaw) = ((λ given. absurd (let e = given.2 in cc)), λ none. absurd cc)

-- They give one exactly where they have no fault.
pub gives_exactly : (dump : List ℕ) → ((version : Version) × (store : Store) × IsDump version dump store) ↔ (flaw_of dump ≡ None)
gives_exactly dump = no_flaw (read_of dump)
