-- Arrays that are read one after another, and the whole of a dump.
use Rattle.std.proofs.Common.{◌≡◌, ℕ, ◌+◌, ◌-◌, ◌<◌, ◌≤◌, suc, List, [], ◌++◌, true, IfSome, Result, Ok, Err, refl, sym, ap, subst, ◌∙◌, append-nil, append_assoc, arith}
use Rattle.std.proofs.lemmas.List.Elements.{All-nil, All-append}
use Rattle.judy_model.specs.Arrays.{ArrayValue}
use Rattle.judy_model.specs.Stores.{Store, with_new_array}
use Rattle.judy_model.specs.Keys.{IsByteString}
use Rattle.judy_model.specs.Fields.{Flaw, truncated, Parser, followed_by, ◌>>=◌, done, end, value_of, Behind, Begins}
use Rattle.judy_model.specs.DumpText.{Version}
use Rattle.judy_model.specs.DumpGrammar as grammar
use Rattle.judy_model.specs.DumpGrammar.{IsDump}
use Rattle.judy_model.specs.DumpPlaces.{up_to_entry, EndsAtEntry}
use Rattle.judy_model.proofs.lemmas.dumps.DumpLemmas.{dump_back}
use Rattle.judy_model.proofs.lemmas.dumps.FieldLemmas.{followed_ok, done_ok}
use Rattle.judy_pipe.specs.Pipe.{grown}
use Rattle.judy_pipe.proofs.Moves.{grown-grown}
use Rattle.judy_shelf.specs.Reads.{Drawn, Cause, reader, memory, cut, told, OfFronts, IsWholeOrCut, Stops, ReadsValue, ReadsFault, EndFault, LoadsFault, AtSome, InBody, InArray}
use Rattle.judy_shelf.specs.Reads.{InArrays, InCounted, InStore, counted, up_to_end, LoadsWhole, Loaded, cause_of}
use Rattle.std.specs.Result.{IsErrAnd}
use Rattle.judy_shelf.specs.declared.fault.LoadFault.{LoadFault}
use Rattle.judy_shelf.specs.Shelves.{Entries}
use Rattle.judy_shelf.proofs.FrontLemmas.{no_fronts, fronts_of_both}
use Rattle.judy_shelf.proofs.ReadLemmas.{stops_too, fault_within, fault_behind, begins_then, value_then, value_done, Reading, reading_end, reading_fault}
use Rattle.judy_shelf.proofs.WriteLemmas.{grown_nothing}

-- An array that was read whole ends behind its last entry, or its key count.
array_ends : (version : Version) (made : Store) (input : List ℕ) (read : List ℕ × ArrayValue) → grammar.array version made input ≡ Ok (read, []) → InArray version made input
array_ends version made input read is =
    let name = followed_ok (grammar.name made input) (λ name. grammar.body version >>= λ held. done (name, held)) (read, []) is in
    let body = followed_ok (grammar.body version name.0.1) (λ held. done (name.0.0, held)) (read, []) name.2 in
    let kind = followed_ok (grammar.kind name.0.1) (λ kind. grammar.limit >>= λ limit. grammar.key_count limit >>= λ count. grammar.contents version kind limit count) body.0 body.1 in
    let limit = followed_ok (grammar.limit kind.0.1) (λ limit. grammar.key_count limit >>= λ count. grammar.contents version kind.0.0 limit count) body.0 kind.2 in
    let count = followed_ok (grammar.key_count limit.0.0 limit.0.1) (λ count. grammar.contents version kind.0.0 limit.0.0 count) body.0 limit.2 in
    let Contents = AtSome (grammar.contents version kind.0.0 limit.0.0) count.0.0 in
    let ends : body.0.1 ≡ [] = (done_ok (name.0.0, body.0.0) body.0.1 read [] body.2).1 in
    let contents : Contents count.0.1 = (count.0.0, omega arith, subst (λ r. Behind r (λ _ rest. rest ≡ [])) (sym count.2) ends) in
    let counted = subst (λ r. Behind r (λ count. AtSome (grammar.contents version kind.0.0 limit.0.0) count)) (sym count.1) contents in
    let limited = subst (λ r. Behind r (λ limit. Begins (grammar.key_count limit) (λ count. AtSome (grammar.contents version kind.0.0 limit) count))) (sym limit.1) counted in
    let inside : InBody version name.0.1 = subst (λ r. Behind r (λ kind. Begins grammar.limit (λ limit. Begins (grammar.key_count limit)
    (λ count. AtSome (grammar.contents version kind limit) count)))) (sym kind.1) limited in
    subst (λ r. Behind r (λ name. InBody version)) (sym name.1) inside

-- So many arrays were read, which are these, however many are said.
pub record ArraysRead (version : Version) (earlier : ℕ) (made : Store) (before now : Drawn) : Type 0 where
  pub input : List ℕ
  pub given : now.given ≡ grown before.given input
  pub bytes : IsByteString input
  pub failures : now.failures ≡ before.failures
  pub goes : (left total : ℕ) → earlier + left ≡ total → (more : List ℕ) → grammar.arrays version [] total (input ++ more) ≡ grammar.arrays version made left more
  pub cut_before : (total : ℕ) → earlier ≤ total → OfFronts (λ front. grammar.arrays version [] total front ≡ Err truncated) input

pub arrays_none : (version : Version) (now : Drawn) → ArraysRead version 0 [] now now
arrays_none version now = record {
  input = [];
  given = sym (grown_nothing now.given);
  bytes = All-nil (λ byte. byte < 256);
  failures = refl;
  goes = λ left total is more. let same : total ≡ left = omega (arith, is) in ap (λ n. grammar.arrays version [] n more) same;
  cut_before = λ total few. no_fronts (λ front. grammar.arrays version [] total front ≡ Err truncated);
}

module _ (version : Version) (earlier : ℕ) (made : Store) (before mid : Drawn) (far : ArraysRead version earlier made before mid) where
  abbrev far_reading : (left total : ℕ) → earlier + left ≡ total → Reading (grammar.arrays version [] total) (grammar.arrays version made left) before mid
  far_reading left total is = record {
    input = far.input;
    given = far.given;
    bytes = far.bytes;
    failures = far.failures;
    goes = far.goes left total is;
    cut_before = far.cut_before total (omega (arith, is));
  }

  far_begins : (input : List ℕ) → InArray version made input → Begins (grammar.arrays version [] earlier) (InArray version) (far.input ++ input)
  far_begins input inside =
      let all : earlier + 0 ≡ earlier = omega arith in
      subst (λ r. Behind r (InArray version)) (sym (far.goes 0 earlier all input)) inside

  pub arrays_whole : ReadsValue (grammar.arrays version [] earlier) made before mid
  arrays_whole =
      let all : earlier + 0 ≡ earlier = omega arith in
      reading_end (grammar.arrays version [] earlier) made before mid (far_reading 0 earlier all)

  module _ (after : Drawn) where
    pub arrays_next : (name : List ℕ) (held : ArrayValue) → ReadsValue (grammar.array version made) (name, held) mid after →
        ArraysRead version (earlier + 1) (with_new_array made name held) before after
    arrays_next name held next = record {
      input = far.input ++ next.input;
      given = next.given ∙ ap (λ known. grown known next.input) far.given ∙ grown-grown before.given far.input next.input;
      bytes = All-append (λ byte. byte < 256) far.input next.input far.bytes next.bytes;
      failures = next.failures ∙ far.failures;
      goes = λ left total is more.
          let one : earlier + suc left ≡ total = omega (arith, is) in
          ap (grammar.arrays version [] total) (append_assoc far.input next.input more) ∙ far.goes (suc left) total one (next.input ++ more)
          ∙ ap (λ r. followed_by r (λ next. grammar.arrays version (with_new_array made next.0 next.1) left)) (next.gives more);
      cut_before = λ total few.
          let left = total - (earlier + 1) in
          let one : earlier + suc left ≡ total = omega (arith, few) in
          fronts_of_both (λ front. grammar.arrays version [] total front ≡ Err truncated) far.input next.input (far.cut_before total (omega (arith, few))) (λ front later byte is.
          far.goes (suc left) total one front ∙ ap (λ r. followed_by r (λ next. grammar.arrays version (with_new_array made next.0 next.1) left)) (next.cut_before front later byte is));
    }

    pub arrays_fault : (total : ℕ) → earlier < total → (cause : Cause) → ReadsFault (InArray version made) (grammar.array version made) cause mid after →
        ReadsFault (InArrays version total) (grammar.arrays version [] total) cause before after
    arrays_fault total some cause next =
        let n = total - (earlier + 1) in
        let all : earlier + suc n ≡ total = omega (arith, some) in
        reading_fault (grammar.arrays version [] total) (grammar.arrays version made (suc n)) before mid after (far_reading (suc n) total all) (InArray version made)
        (InArrays version total) (λ input inside. (earlier, some, far_begins input inside)) cause
        (fault_within (grammar.array version made) (λ next. grammar.arrays version (with_new_array made next.0 next.1) n) (InArray version made) (InArray version made)
        (λ input inside. inside) cause mid after next)

    -- Want of memory for one more array, which was read.
    pub arrays_memory : (total : ℕ) → earlier < total → (name : List ℕ) (held : ArrayValue) → ReadsValue (grammar.array version made) (name, held) mid after →
        ReadsFault (InArrays version total) (grammar.arrays version [] total) memory before after
    arrays_memory total some name held next =
        let is = ap (grammar.array version made) (sym (append-nil next.input)) ∙ next.gives [] in
        arrays_fault total some memory (record { input = next.input; given = next.given; bytes = next.bytes; stops = (next.failures, array_ends version made next.input (name, held) is) })

-- ---- the whole

abbrev at_last : Version × Store → Parser (Version × Store)
at_last read = end >>= λ _. done read

-- A store with its format, and the end asked for before it.
abbrev paired : Version → Store → Parser (Version × Store)
paired version made = done (version, made)

abbrev ended_with : Version → Store → Parser (Version × Store)
ended_with version made = end >>= λ _. done (version, made)

-- The end is asked for behind the arrays, which stand behind their number.
counted_parts : (version : Version) (read : Result (ℕ × List ℕ) Flaw) → followed_by read (λ count. grammar.arrays version [] count >>= ended_with version) ≡
    followed_by (followed_by read (grammar.arrays version [])) (ended_with version)
counted_parts version (Ok given) = refl
counted_parts version (Err fault) = refl

told_parts : (version : Version) (read : Result (Store × List ℕ) Flaw) → followed_by read (ended_with version) ≡ followed_by (followed_by read (paired version)) at_last
told_parts version (Ok given) = refl
told_parts version (Err fault) = refl

begun_parts : (read : Result (Version × List ℕ) Flaw) → followed_by read (λ version. grammar.array_count >>= λ count. grammar.arrays version [] count >>= ended_with version) ≡
    followed_by (followed_by read (λ version. counted version >>= paired version)) at_last
begun_parts (Ok given) = counted_parts given.0 (grammar.array_count given.1) ∙ told_parts given.0 (counted given.0 given.1)
begun_parts (Err fault) = refl

-- A dump is its arrays and then the end.
store_parts : (dump : List ℕ) → grammar.store dump ≡ (up_to_end >>= at_last) dump
store_parts dump = begun_parts (grammar.begins dump)

-- A part that begins bytes, and what holds behind it.
begun : {A : Type 0} (read : Result (A × List ℕ) Flaw) (Holds : A → List ℕ → Type 0) → Behind read Holds → (first : A × List ℕ) × (read ≡ Ok first) × Holds first.0 first.1
begun (Ok first) Holds holds = (first, refl, holds)
begun (Err fault) Holds holds = absurd holds

-- What stands behind the number of arrays, and behind a name, up to an entry.
abbrev rest_of : Version → ℕ → ℕ → Parser (ℕ × ℕ)
rest_of version listed arrays =
    grammar.kind >>= λ kind. grammar.limit >>= λ limit. grammar.key_count limit >>= λ keys. grammar.contents version kind limit listed >>= λ _. done (arrays, keys)

abbrev up_to_entry_of : Version → ℕ → ℕ → ℕ → Parser (ℕ × ℕ)
up_to_entry_of version earlier listed arrays = grammar.arrays version [] earlier >>= λ made. grammar.name made >>= λ _. rest_of version listed arrays

-- The places told part by part are those of the definition.
pub ends_at_entry : (dump : List ℕ) → InStore dump → EndsAtEntry dump
ends_at_entry dump inside =
    let magic = begun (grammar.begins dump) InCounted inside in
    let version = magic.0.0 in
    let arrays = begun (grammar.array_count magic.0.1) (InArrays version) magic.2 in
    let earlier = arrays.2.0 in
    let made = begun (grammar.arrays version [] earlier arrays.0.1) (InArray version) arrays.2.2 in
    let name = begun (grammar.name made.0.0 made.0.1) (λ name. InBody version) made.2 in
    let kind = begun (grammar.kind name.0.1) (λ kind. Begins grammar.limit (λ limit. Begins (grammar.key_count limit) (λ count. AtSome (grammar.contents version kind limit) count))) name.2 in
    let limit = begun (grammar.limit kind.0.1) (λ limit. Begins (grammar.key_count limit) (λ count. AtSome (grammar.contents version kind.0.0 limit) count)) kind.2 in
    let count = begun (grammar.key_count limit.0.0 limit.0.1) (λ count. AtSome (grammar.contents version kind.0.0 limit.0.0) count) limit.2 in
    let listed = count.2.0 in
    let contents = begun (grammar.contents version kind.0.0 limit.0.0 listed count.0.1) (λ _ rest. rest ≡ []) count.2.2 in
    let is : up_to_entry earlier listed dump ≡ Ok ((arrays.0.0, count.0.0), contents.0.1) =
    ap (λ r. followed_by r (λ version. grammar.array_count >>= λ arrays. up_to_entry_of version earlier listed arrays)) magic.1
    ∙ ap (λ r. followed_by r (up_to_entry_of version earlier listed)) arrays.1
    ∙ ap (λ r. followed_by r (λ made. grammar.name made >>= λ _. rest_of version listed arrays.0.0)) made.1
    ∙ ap (λ r. followed_by r (λ _. rest_of version listed arrays.0.0)) name.1
    ∙ ap (λ r. followed_by r (λ kind. grammar.limit >>= λ limit. grammar.key_count limit >>= λ keys. grammar.contents version kind limit listed >>= λ _. done (arrays.0.0, keys))) kind.1
    ∙ ap (λ r. followed_by r (λ limit. grammar.key_count limit >>= λ keys. grammar.contents version kind.0.0 limit listed >>= λ _. done (arrays.0.0, keys))) limit.1
    ∙ ap (λ r. followed_by r (λ keys. grammar.contents version kind.0.0 limit.0.0 listed >>= λ _. done (arrays.0.0, keys))) count.1
    ∙ ap (λ r. followed_by r (λ _. done (arrays.0.0, count.0.0))) contents.1 in
    (earlier, listed, subst (λ r. Behind r (λ said rest. (earlier < said.0) × (listed ≤ said.1) × (rest ≡ []))) (sym is) (arrays.2.1, count.2.1, contents.2))

-- A dump that is cut off.
cut_whole : (front : List ℕ) → (up_to_end >>= at_last) front ≡ Err truncated → IsWholeOrCut (grammar.store front)
cut_whole front is = subst IsWholeOrCut (sym (store_parts front ∙ is)) refl

module _ (before after : Drawn) where
  told_whole : (cause : Cause) → ReadsFault EndsAtEntry (up_to_end >>= at_last) cause before after → LoadsFault cause before after
  told_whole cause read = record {
    input = read.input;
    given = read.given;
    bytes = read.bytes;
    stops =
        stops_too EndsAtEntry EndsAtEntry (λ front. (up_to_end >>= at_last) front ≡ Err truncated) (λ front. IsWholeOrCut (grammar.store front))
        (up_to_end >>= at_last) grammar.store read.input before after
        (λ input fault is. store_parts input ∙ is) (λ ends. ends) cut_whole cause read.stops;
  }

  -- What stops the reading before the end.
  pub stopped_early : (cause : Cause) → ReadsFault InStore up_to_end cause before after → LoadsFault cause before after
  stopped_early cause read = told_whole cause (fault_within up_to_end at_last InStore EndsAtEntry ends_at_entry cause before after read)

module _ (version : Version) (before one two : Drawn) (first : ReadsValue grammar.begins version before one) where
  -- What stops the reading behind the name of the format.
  pub stopped_inside : (cause : Cause) → ReadsFault (InCounted version) (counted version) cause one two → ReadsFault InStore up_to_end cause before two
  stopped_inside cause read =
      fault_behind grammar.begins (λ version. counted version >>= λ made. done (version, made)) version before one first (InCounted version) InStore
      (begins_then grammar.begins version before one first InCounted) cause two
      (fault_within (counted version) (λ made. done (version, made)) (InCounted version) (InCounted version) (λ input inside. inside) cause one two read)

module _ (version : Version) (store : Store) (before one two : Drawn) (first : ReadsValue grammar.begins version before one) where
  -- All of a dump but its end was read.
  pub read_up_to_end : ReadsValue (counted version) store one two → ReadsValue up_to_end (version, store) before two
  read_up_to_end next =
      value_then grammar.begins (λ version. counted version >>= λ made. done (version, made)) version before one first (version, store) two
      (value_then (counted version) (λ made. done (version, made)) store one two next (version, store) two (value_done (version, store) two))

module _ (version : Version) (store : Store) (before mid after : Drawn) (first : ReadsValue up_to_end (version, store) before mid) where
  -- Behind the arrays come no bytes.
  pub loads_whole : after.given ≡ mid.given → after.failures ≡ mid.failures → IfSome after.ended (λ ended. ended ≡ true) → LoadsWhole store before after
  loads_whole given failures ended =
      let is : IsDump version first.input store = ap value_of (store_parts first.input ∙ ap (up_to_end >>= at_last) (sym (append-nil first.input)) ∙
      ap (λ r. followed_by r at_last) (first.gives [])) in
      let known = dump_back version first.input store first.bytes is in
      record {
        input = first.input;
        given = given ∙ first.given;
        bytes = first.bytes;
        failures = failures ∙ first.failures;
        ended = ended;
        version = version;
        is_dump = is;
        is_store = known.1;
        is_regular = known.2;
      }

  -- Behind the arrays the end is asked for.
  end_behind : (input : List ℕ) → grammar.store (first.input ++ input) ≡ at_last (version, store) input
  end_behind input = store_parts (first.input ++ input) ∙ ap (λ r. followed_by r at_last) (first.gives input)

  whole_at_end : (read : Result (Unit {0} × List ℕ) Flaw) → IsWholeOrCut read → IsWholeOrCut (followed_by read (λ _. paired version store))
  whole_at_end (Ok given) is = tt
  whole_at_end (Err fault) is = is

  whole_behind : (input : List ℕ) → IsWholeOrCut (end input) → IsWholeOrCut (grammar.store (first.input ++ input))
  whole_behind input is = subst IsWholeOrCut (sym (end_behind input)) (whole_at_end (end input) is)

  end_stops : (input : List ℕ) (cause : Cause) → Stops (λ input. ⊥) (λ front. IsWholeOrCut (end front)) end input mid after cause →
      Stops EndsAtEntry (λ front. IsWholeOrCut (grammar.store front)) grammar.store (first.input ++ input) before after cause
  end_stops input reader stops = (stops.0 ∙ ap (λ n. n + 1) first.failures, whole_behind input stops.1)
  end_stops input memory stops = absurd stops.1
  end_stops input cut stops = (stops.0 ∙ first.failures, stops.1, end_behind input ∙ ap (λ r. followed_by r (λ _. paired version store)) stops.2)
  end_stops input (told fault) stops = (
    stops.0 ∙ first.failures,
    (λ more. ap grammar.store (append_assoc first.input input more) ∙ end_behind (input ++ more) ∙ ap (λ r. followed_by r (λ _. paired version store)) (stops.1 more)),
    fronts_of_both (λ front. IsWholeOrCut (grammar.store front)) first.input input (λ front later byte is. cut_whole front (ap (λ r. followed_by r at_last) (first.cut_before front later byte is)))
        (λ front later byte is. whole_behind front (stops.2 front later byte is)),
  )

  -- What stops the reading behind the arrays stops the whole.
  pub loads_fault : (cause : Cause) → EndFault cause mid after → LoadsFault cause before after
  loads_fault cause read = record {
    input = first.input ++ read.input;
    given = read.given ∙ ap (λ known. grown known read.input) first.given ∙ grown-grown before.given first.input read.input;
    bytes = All-append (λ byte. byte < 256) first.input read.input first.bytes read.bytes;
    stops = end_stops read.input cause read.stops;
  }

-- What is answered where the load was stopped.
pub loaded_err : (before after : Drawn) (fault : LoadFault) (result : Result Entries LoadFault) → IsErrAnd result (λ told. told ≡ fault) → LoadsFault (cause_of fault) before after →
    Loaded before result after
loaded_err before after fault (Ok entries) is read = absurd is
loaded_err before after fault (Err other) is read = subst (λ f. LoadsFault (cause_of f) before after) (sym is) read
