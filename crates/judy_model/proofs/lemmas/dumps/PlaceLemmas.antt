-- Bytes that end behind a key count, or behind an entry, are a dump or cut off there.
use Rattle.std.proofs.Common.{◌≡◌, ℕ, zero, suc, ◌<◌, ◌≤◌, Bool, true, false, cond, ◌==◌, ◌⊎◌, inl, inr, ⊎_elim, List, [], ◌∷◌, Option, Some, None, Result, Ok, Err, refl, sym, ap, subst, ◌∙◌, arith}
use Rattle.std.specs.Result.{result_err}
use Rattle.std.specs.declared.cmp.Ordering.{Ordering}
use Rattle.std.specs.FinMap.{from_entries}
use Rattle.judy_model.specs.Keys.{word_order, byte_order}
use Rattle.judy_model.specs.Arrays.{ArrayOf, ArrayValue, judy1, judyl, judysl, judyhs}
use Rattle.judy_model.specs.Stores.{Store, with_new_array}
use Rattle.judy_model.specs.Fields.{Flaw, truncated, Parser, followed_by, ◌>>=◌, done, end, value_of, Behind}
use Rattle.judy_model.specs.DumpText.{Version, jdy1, jdy2, length_order}
use Rattle.judy_model.specs.DumpGrammar as grammar
use Rattle.judy_model.specs.DumpGrammar.{entry, entries, filled, flaw_of}
use Rattle.judy_model.specs.DumpPlaces.{up_to_entry, EndsAtEntry}
use Rattle.judy_model.proofs.lemmas.dumps.FieldLemmas.{followed_ok, done_ok}

-- A part read bytes to their end, or found them cut off.
record WholeOrCut {A : Type 0} (read : Result (A × List ℕ) Flaw) : Type 0 where
  cases : ((value : A) × (read ≡ Ok (value, []))) ⊎ (read ≡ Err truncated)

-- A part that left nothing.
ended : {A : Type 0} (read : Result (A × List ℕ) Flaw) (first : A × List ℕ) → read ≡ Ok first → first.1 ≡ [] → read ≡ Ok (first.0, [])
ended read first is none = is ∙ ap (λ rest. Ok (first.0, rest)) none

-- A value for which nothing more is read.
whole_done : {A : Type 0} (value : A) → WholeOrCut (done value [])
whole_done value = record { cases = inl (value, refl) }

module _ {A B : Type 0} (read : Result (A × List ℕ) Flaw) (rest : A → Parser B) where
  -- What stands behind a part that was read to the end of the bytes.
  at_end : WholeOrCut read → ((value : A) → WholeOrCut (rest value [])) → WholeOrCut (followed_by read rest)
  at_end is others =
      ⊎_elim
      (λ (whole : (value : A) × (read ≡ Ok (value, []))). subst (λ r. WholeOrCut (followed_by r rest)) (sym whole.1) (others whole.0))
      (λ (cut : read ≡ Err truncated). record { cases = inr (ap (λ r. followed_by r rest) cut) })
      is.cases

  -- What stands behind a part that gave a value.
  behind : (first : A × List ℕ) → read ≡ Ok first → WholeOrCut (rest first.0 first.1) → WholeOrCut (followed_by read rest)
  behind first is others = subst (λ r. WholeOrCut (followed_by r rest)) (sym is) others

-- ---- entries

module _ {K : Type 0} (order : K → K → Ordering) (key : Option K → Parser K) (value : Parser ℕ) (cut : (before : Option K) → key before [] ≡ Err truncated) where
  no_entries_left : (before : Option K) (count : ℕ) → WholeOrCut (entries order key value before count [])
  no_entries_left before zero = whole_done []
  no_entries_left before (suc count) = record { cases = inr (rw (cut before) refl) }

  -- Of so many entries the first ones are there.
  entries_left : (listed count : ℕ) (before : Option K) (input : List ℕ) (held : List (K × ℕ)) → listed ≤ count → entries order key value before listed input ≡ Ok (held, []) →
      WholeOrCut (entries order key value before count input)
  entries_left zero count before input held few is =
      let d = done_ok [] input held [] is in
      subst (λ rest. WholeOrCut (entries order key value before count rest)) (sym d.1) (no_entries_left before count)
  entries_left (suc listed) zero before input held few is = absurd (omega arith)
  entries_left (suc listed) (suc count) before input held few is =
      let f = followed_ok (entry order key value before input) (λ first. entries order key value (Some first.0) listed >>= λ others. done (first ∷ others)) (held, []) is in
      let g = followed_ok (entries order key value (Some f.0.0.0) listed f.0.1) (λ others. done (f.0.0 ∷ others)) (held, []) f.2 in
      let d = done_ok (f.0.0 ∷ g.0.0) g.0.1 held [] g.2 in
      let more = entries_left listed count (Some f.0.0.0) f.0.1 g.0.0 (omega arith) (ended (entries order key value (Some f.0.0.0) listed f.0.1) g.0 g.1 d.1) in
      behind (entry order key value before input) (λ first. entries order key value (Some first.0) count >>= λ others. done (first ∷ others)) f.0 f.1
      (at_end (entries order key value (Some f.0.0.0) count f.0.1) (λ others. done (f.0.0 ∷ others)) more (λ others. whole_done (f.0.0 ∷ others)))

  module _ {arrays : K → K → Ordering} (made : ArrayOf arrays → ArrayValue) (limit : ℕ) where
    array_of : List (K × ℕ) → ArrayValue
    array_of held = made (record { limit = limit; map = from_entries held })

    filled_left : (listed count : ℕ) (input : List ℕ) (array : ArrayValue) → listed ≤ count → filled made limit (entries order key value None listed) input ≡ Ok (array, []) →
        WholeOrCut (filled made limit (entries order key value None count) input)
    unfolding array_of
    filled_left listed count input array few is =
        let f = followed_ok (entries order key value None listed input) (λ held. done (array_of held)) (array, []) is in
        let d = done_ok (array_of f.0.0) f.0.1 array [] f.2 in
        let all = entries_left listed count None input f.0.0 few (ended (entries order key value None listed input) f.0 f.1 d.1) in
        at_end (entries order key value None count input) (λ held. done (array_of held)) all (λ held. whole_done (array_of held))

-- One of four parts, by three tests.
by_tests : {A : Type 0} (one two three : Bool) (first second third fourth first_all second_all third_all fourth_all : Parser A) (input : List ℕ) (value : A)
    → (first input ≡ Ok (value, []) → WholeOrCut (first_all input)) → (second input ≡ Ok (value, []) → WholeOrCut (second_all input))
    → (third input ≡ Ok (value, []) → WholeOrCut (third_all input)) → (fourth input ≡ Ok (value, []) → WholeOrCut (fourth_all input))
    → cond one first (cond two second (cond three third fourth)) input ≡ Ok (value, []) → WholeOrCut (cond one first_all (cond two second_all (cond three third_all fourth_all)) input)
by_tests true two three first second third fourth first_all second_all third_all fourth_all input value p q r s is = p is
by_tests false true three first second third fourth first_all second_all third_all fourth_all input value p q r s is = q is
by_tests false false true first second third fourth first_all second_all third_all fourth_all input value p q r s is = r is
by_tests false false false first second third fourth first_all second_all third_all fourth_all input value p q r s is = s is

-- The entries of each kind.
abbrev sets : ℕ → ℕ → Parser ArrayValue
sets limit count = filled judy1 limit (entries word_order (λ before. grammar.word) grammar.no_value None count)

abbrev words : ℕ → ℕ → Parser ArrayValue
words limit count = filled judyl limit (entries word_order (λ before. grammar.word) grammar.word None count)

abbrev strings : Version → ℕ → ℕ → Parser ArrayValue
strings version limit count = filled judysl limit (entries byte_order (grammar.string_key version) grammar.word None count)

abbrev byte_strings : ℕ → ℕ → Parser ArrayValue
byte_strings limit count = filled judyhs limit (entries length_order (λ before. grammar.string) grammar.word None count)

no_string_left : (version : Version) (before : Option (List ℕ)) → grammar.string_key version before [] ≡ Err truncated
no_string_left jdy1 before = refl
no_string_left jdy2 before = refl

contents_left : (version : Version) (kind limit listed count : ℕ) (input : List ℕ) (array : ArrayValue) → listed ≤ count → grammar.contents version kind limit listed input ≡ Ok (array, []) →
    WholeOrCut (grammar.contents version kind limit count input)
contents_left version kind limit listed count input array few is =
    by_tests (kind == 1) (kind == 2) (kind == 3) (sets limit listed) (words limit listed) (strings version limit listed) (byte_strings limit listed) (sets limit count)
    (words limit count) (strings version limit count) (byte_strings limit count) input array
    (filled_left word_order (λ before. grammar.word) grammar.no_value (λ before. refl) judy1 limit listed count input array few)
    (filled_left word_order (λ before. grammar.word) grammar.word (λ before. refl) judyl limit listed count input array few)
    (filled_left byte_order (grammar.string_key version) grammar.word (no_string_left version) judysl limit listed count input array few)
    (filled_left length_order (λ before. grammar.string) grammar.word (λ before. refl) judyhs limit listed count input array few)
    is

-- ---- arrays

no_arrays_left : (version : Version) (earlier : Store) (count : ℕ) → WholeOrCut (grammar.arrays version earlier count [])
no_arrays_left version earlier zero = whole_done earlier
no_arrays_left version earlier (suc count) = record { cases = inr refl }

-- Of so many arrays some are there, and the next one or a part of it.
arrays_left : (version : Version) (earlier count : ℕ) (before : Store) (input : List ℕ) (made : Store × List ℕ) → earlier < count → grammar.arrays version before earlier input ≡ Ok made →
    WholeOrCut (grammar.array version made.0 made.1) → WholeOrCut (grammar.arrays version before count input)
arrays_left version earlier zero before input made few is next = absurd (omega arith)
arrays_left version zero (suc count) before input made few is next =
    let d = done_ok before input made.0 made.1 is in
    at_end (grammar.array version before input) (λ next. grammar.arrays version (with_new_array before next.0 next.1) count)
    (subst (λ (b : Store). WholeOrCut (grammar.array version b input)) (sym d.0) (subst (λ (i : List ℕ). WholeOrCut (grammar.array version made.0 i)) (sym d.1) next))
    (λ array. no_arrays_left version (with_new_array before array.0 array.1) count)
arrays_left version (suc earlier) (suc count) before input made few is next =
    let f = followed_ok (grammar.array version before input) (λ array. grammar.arrays version (with_new_array before array.0 array.1) earlier) made is in
    behind (grammar.array version before input) (λ array. grammar.arrays version (with_new_array before array.0 array.1) count) f.0 f.1
    (arrays_left version earlier count (with_new_array before f.0.0.0 f.0.0.1) f.0.1 made (omega arith) f.2 next)

-- ---- the whole

-- A part that begins bytes, and what holds behind it.
pub begun : {A : Type 0} (read : Result (A × List ℕ) Flaw) (Holds : A → List ℕ → Type 0) → Behind read Holds → (first : A × List ℕ) × (read ≡ Ok first) × Holds first.0 first.1
begun (Ok first) Holds holds = (first, refl, holds)
begun (Err flaw) Holds holds = absurd holds

-- What stands behind an array's name, up to an entry.
abbrev up_to_entry_of : Version → ℕ → ℕ → Parser (ℕ × ℕ)
up_to_entry_of version listed arrays =
    grammar.kind >>= λ kind. grammar.limit >>= λ limit. grammar.key_count limit >>= λ keys. grammar.contents version kind limit listed >>= λ _. done (arrays, keys)

body_left : (version : Version) (listed arrays : ℕ) (input : List ℕ) (said : (ℕ × ℕ) × List ℕ) → up_to_entry_of version listed arrays input ≡ Ok said →
    listed ≤ said.0.1 → said.1 ≡ [] → WholeOrCut (grammar.body version input) × (said.0.0 ≡ arrays)
body_left version listed arrays input said is some ends =
    let kind = followed_ok (grammar.kind input) _ said is in
    let limit = followed_ok (grammar.limit kind.0.1) _ said kind.2 in
    let count = followed_ok (grammar.key_count limit.0.0 limit.0.1) _ said limit.2 in
    let held = followed_ok (grammar.contents version kind.0.0 limit.0.0 listed count.0.1) _ said count.2 in
    let same = done_ok {A = ℕ × ℕ} (arrays, count.0.0) held.0.1 said.0 said.1 held.2 in
    let few : listed ≤ count.0.0 = subst (λ (n : ℕ). listed ≤ n) (ap (λ (pair : ℕ × ℕ). pair.1) (sym same.0)) some in
    let rest : held.0.1 ≡ [] = same.1 ∙ ends in
    let contents = contents_left version kind.0.0 limit.0.0 listed count.0.0 count.0.1 held.0.0 few (ended (grammar.contents version kind.0.0 limit.0.0 listed count.0.1) held.0 held.1 rest) in (
      behind (grammar.kind input) _ kind.0 kind.1 (behind (grammar.limit kind.0.1) _ limit.0 limit.1 (behind (grammar.key_count limit.0.0 limit.0.1) _ count.0 count.1 contents)),
      ap (λ (pair : ℕ × ℕ). pair.0) (sym same.0),
    )

-- An array behind others, up to an entry.
array_left : (version : Version) (listed arrays : ℕ) (made : Store) (input : List ℕ) (said : (ℕ × ℕ) × List ℕ) →
    (grammar.name made >>= λ _. up_to_entry_of version listed arrays) input ≡ Ok said → listed ≤ said.0.1 → said.1 ≡ [] → WholeOrCut (grammar.array version made input) × (said.0.0 ≡ arrays)
array_left version listed arrays made input said is some ends =
    let name = followed_ok (grammar.name made input) (λ _. up_to_entry_of version listed arrays) said is in
    let body = body_left version listed arrays name.0.1 said name.2 some ends in
    (behind (grammar.name made input) _ name.0 name.1 (at_end (grammar.body version name.0.1) (λ held. done (name.0.0, held)) body.0 (λ held. whole_done (name.0.0, held))), body.1)

-- All arrays, of which some stand before one that is there up to an entry.
all_left : (version : Version) (earlier listed arrays : ℕ) (input : List ℕ) (said : (ℕ × ℕ) × List ℕ) →
    (grammar.arrays version [] earlier >>= λ made. grammar.name made >>= λ _. up_to_entry_of version listed arrays) input ≡ Ok said → earlier < said.0.0 → listed ≤ said.0.1 → said.1 ≡ []
    → WholeOrCut (grammar.arrays version [] arrays input)
all_left version earlier listed arrays input said is few some ends =
    let made = followed_ok (grammar.arrays version [] earlier input) (λ made. grammar.name made >>= λ _. up_to_entry_of version listed arrays) said is in
    let array = array_left version listed arrays made.0.0 made.0.1 said made.2 some ends in
    arrays_left version earlier arrays [] input made.0 (subst (λ (n : ℕ). earlier < n) array.1 few) made.1 array.0

whole_or_cut : (dump : List ℕ) → EndsAtEntry dump → WholeOrCut (grammar.store dump)
whole_or_cut dump ends =
    let earlier = ends.0 in
    let listed = ends.1 in
    let said = begun (up_to_entry earlier listed dump) (λ said rest. (earlier < said.0) × (listed ≤ said.1) × (rest ≡ [])) ends.2 in
    let magic = followed_ok (grammar.begins dump) _ said.0 said.1 in
    let version : Version = magic.0.0 in
    let arrays = followed_ok (grammar.array_count magic.0.1) _ said.0 magic.2 in
    let all = all_left version earlier listed arrays.0.0 arrays.0.1 said.0 arrays.2 said.2.0 said.2.1 said.2.2 in
    behind (grammar.begins dump) _ magic.0 magic.1 (behind (grammar.array_count magic.0.1) _ arrays.0 arrays.1
    (at_end (grammar.arrays version [] arrays.0.0 arrays.0.1) (λ made. end >>= λ _. done (version, made)) all (λ made. whole_done (version, made))))

-- Such bytes have no fault, or the one that they are cut off.
pub no_other_flaw : (dump : List ℕ) → EndsAtEntry dump → (flaw_of dump ≡ None) ⊎ (flaw_of dump ≡ Some truncated)
no_other_flaw dump ends =
    let is = whole_or_cut dump ends in
    ⊎_elim
    (λ (whole : (read : Version × Store) × (grammar.store dump ≡ Ok (read, []))). inl (ap (λ read. result_err (value_of read)) whole.1))
    (λ (cut : grammar.store dump ≡ Err truncated). inr (ap (λ read. result_err (value_of read)) cut))
    is.cases
