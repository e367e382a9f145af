-- The dump of one array, read part by part.
use Rattle.std.proofs.Common.{◌≡◌, ℕ, ◌<◌, ◌≤◌, List, [], ◌∷◌, ◌++◌, Result, Ok, Err, refl, sym, ap, subst, ◌∙◌, append_assoc, append-nil, arith}
use Rattle.std.specs.declared.cmp.Ordering.{Ordering}
use Rattle.std.specs.FinMap.{from_entries}
use Rattle.std.specs.Result.{IsErrAnd}
use Rattle.std.proofs.lemmas.List.Elements.{All-nil, All-append}
use Rattle.judy_model.specs.Arrays.{ArrayOf, ArrayValue, judy1, judyl, judysl, judyhs, empty_array}
use Rattle.judy_model.specs.Keys.{word_order, byte_order}
use Rattle.judy_model.specs.Stores.{Store, with_new_array}
use Rattle.judy_model.specs.Fields.{Flaw, truncated, Parser, followed_by, ◌>>=◌, done, Behind, Begins}
use Rattle.judy_model.specs.DumpText.{Version}
use Rattle.judy_model.specs.DumpGrammar as grammar
use Rattle.judy_model.specs.DumpGrammar.{filled}
use Rattle.judy_model.proofs.lemmas.dumps.FieldLemmas.{done_ok}
use Rattle.judy_pipe.specs.Pipe.{grown}
use Rattle.judy_pipe.proofs.Moves.{grown-grown}
use Rattle.judy_shelf.specs.Ones.{ComesTo, ReadSome, EndsBehindEntry, OneStopped, HeadRead, LoadedOne}
use Rattle.judy_shelf.specs.declared.one.Head.{Head}
use Rattle.judy_shelf.specs.declared.one.OneFault.{OneFault}
use Rattle.judy_shelf.specs.Reads.{Drawn, Cause, ReadsValue, ReadsFault, Nowhere, AtSome, InBody, InArray, InArrays, InCounted, InStore, counted, up_to_end, LoadsFault}
use Rattle.judy_shelf.proofs.FrontLemmas.{no_fronts, fronts_of_both}
use Rattle.judy_shelf.proofs.ReadLemmas.{stops_too, begins_then, value_then, value_done, Reading, reading_fault, reading_value}
use Rattle.judy_shelf.proofs.ArrayReads.{stopped_early, ends_at_entry}
use Rattle.judy_shelf.proofs.WriteLemmas.{grown_nothing}

-- ---- one part behind another

module _ {B : Type 0} (Whole : List ℕ → Type 0) (whole : Parser B) where
  -- Nothing is read yet.
  pub comes_first : (now : Drawn) → ComesTo Whole whole Whole whole now now
  comes_first now = record {
    input = [];
    given = sym (grown_nothing now.given);
    bytes = All-nil (λ byte. byte < 256);
    failures = refl;
    goes = λ more. refl;
    cut_before = no_fronts (λ front. whole front ≡ Err truncated);
    holds = λ more here. here;
  }

  module _ (Here : List ℕ → Type 0) (rest : Parser B) (before now : Drawn) (far : ComesTo Whole whole Here rest before now) where
    -- The same under more words for what comes, and with the rest told otherwise.
    pub comes_as : (Less : List ℕ → Type 0) (other : Parser B) → ((input : List ℕ) → Less input → Here input) → ((input : List ℕ) → rest input ≡ other input) →
        ComesTo Whole whole Less other before now
    comes_as Less other here same = record {
      input = far.input;
      given = far.given;
      bytes = far.bytes;
      failures = far.failures;
      goes = λ more. far.goes more ∙ same more;
      cut_before = far.cut_before;
      holds = λ more less. far.holds more (here more less);
    }

    abbrev as_reading : Reading whole rest before now
    as_reading = record { input = far.input; given = far.given; bytes = far.bytes; failures = far.failures; goes = far.goes; cut_before = far.cut_before }

    -- What gives the rest gives the whole.
    pub comes_to_value : (after : Drawn) (value : B) → ReadsValue rest value now after → ReadsValue whole value before after
    comes_to_value after value next = reading_value whole rest before now after as_reading value next

  module _ {A : Type 0} (part : Parser A) (inside : Result (A × List ℕ) Flaw → Result (B × List ℕ) Flaw) (stopped : (fault : Flaw) → inside (Err fault) ≡ Err fault)
      (before mid after : Drawn) where
    -- What stops the part that comes stops the whole.
    pub comes_stopped : (Here Wants : List ℕ → Type 0) → ((input : List ℕ) → Wants input → Here input) → ComesTo Whole whole Here (λ more. inside (part more)) before mid → (cause : Cause) →
        ReadsFault Wants part cause mid after → ReadsFault Whole whole cause before after
    comes_stopped Here Wants wants far cause next =
        reading_fault whole (λ more. inside (part more)) before mid after (as_reading Here (λ more. inside (part more)) before mid far) Wants Whole
        (λ input want. far.holds input (wants input want)) cause (record {
          input = next.input;
          given = next.given;
          bytes = next.bytes;
          stops =
              stops_too Wants Wants (λ front. part front ≡ Err truncated) (λ front. inside (part front) ≡ Err truncated) part (λ more. inside (part more)) next.input mid after
              (λ input fault is. ap inside is ∙ stopped fault) (λ want. want) (λ front is. ap inside is ∙ stopped truncated) cause next.stops;
        })

    pub comes_to_fault : (Here : List ℕ → Type 0) → ComesTo Whole whole Here (λ more. inside (part more)) before mid → (cause : Cause) →
        ReadsFault Nowhere part cause mid after → ReadsFault Whole whole cause before after
    comes_to_fault Here far cause next = comes_stopped Here Nowhere (λ input never. absurd never) far cause next

    -- Behind the part the rest comes.
    pub comes_on : (Here : A → List ℕ → Type 0) → ComesTo Whole whole (Begins part Here) (λ more. inside (part more)) before mid → (value : A) → ReadsValue part value mid after →
        ComesTo Whole whole (Here value) (λ more. inside (Ok (value, more))) before after
    comes_on Here far value next = record {
      input = far.input ++ next.input;
      given = next.given ∙ ap (λ known. grown known next.input) far.given ∙ grown-grown before.given far.input next.input;
      bytes = All-append (λ byte. byte < 256) far.input next.input far.bytes next.bytes;
      failures = next.failures ∙ far.failures;
      goes = λ more. ap whole (append_assoc far.input next.input more) ∙ far.goes (next.input ++ more) ∙ ap inside (next.gives more);
      cut_before = fronts_of_both (λ front. whole front ≡ Err truncated) far.input next.input far.cut_before (λ front later byte is. far.goes front ∙ ap inside (next.cut_before front later byte is) ∙
          stopped truncated);
      holds = λ more here. subst Whole (sym (append_assoc far.input next.input more)) (far.holds (next.input ++ more) (subst (λ r. Behind r Here) (sym (next.gives more)) here));
    }

-- ---- what stands before the keys

-- The array of a name alone, and nothing behind it asked for.
abbrev pub after_array : Version → Result ((List ℕ × ArrayValue) × List ℕ) Flaw → Result ((Version × Store) × List ℕ) Flaw
after_array version read = followed_by (followed_by read (λ next. grammar.arrays version (with_new_array [] next.0 next.1) 0)) (λ made. done (version, made))

abbrev pub after_body : Version → List ℕ → Result (ArrayValue × List ℕ) Flaw → Result ((Version × Store) × List ℕ) Flaw
after_body version name read = after_array version (followed_by read (λ held. done (name, held)))

abbrev pub alone : Version → List ℕ → ArrayValue → Parser (Version × Store)
alone version name held = done (version, (name, held) ∷ [])

after_body_alone : (version : Version) (name : List ℕ) (read : Result (ArrayValue × List ℕ) Flaw) → after_body version name read ≡ followed_by read (alone version name)
after_body_alone version name (Ok held) = refl
after_body_alone version name (Err fault) = refl

module _ (version : Version) where
  abbrev pub after_counted : Result (Store × List ℕ) Flaw → Result ((Version × Store) × List ℕ) Flaw
  after_counted read = followed_by read (λ made. done (version, made))

  abbrev pub after_count : Result (ℕ × List ℕ) Flaw → Result ((Version × Store) × List ℕ) Flaw
  after_count read = after_counted (followed_by read (grammar.arrays version []))

  abbrev pub after_name : Result (List ℕ × List ℕ) Flaw → Result ((Version × Store) × List ℕ) Flaw
  after_name read = after_array version (followed_by read (λ name. grammar.body version >>= λ held. done (name, held)))

  abbrev pub In : ℕ → ℕ → ℕ → List ℕ → Type 0
  In kind limit count = AtSome (grammar.contents version kind limit) count

  module _ (name : List ℕ) where
    abbrev pub after_kind : Result (ℕ × List ℕ) Flaw → Result ((Version × Store) × List ℕ) Flaw
    after_kind read = after_body version name (followed_by read (λ kind. grammar.limit >>= λ limit. grammar.key_count limit >>= λ count. grammar.contents version kind limit count))

    abbrev pub after_limit : ℕ → Result (ℕ × List ℕ) Flaw → Result ((Version × Store) × List ℕ) Flaw
    after_limit kind read = after_body version name (followed_by read (λ limit. grammar.key_count limit >>= λ count. grammar.contents version kind limit count))

    abbrev pub after_key_count : ℕ → ℕ → Result (ℕ × List ℕ) Flaw → Result ((Version × Store) × List ℕ) Flaw
    after_key_count kind limit read = after_body version name (followed_by read (λ count. grammar.contents version kind limit count))

abbrev pub after_magic : Result (Version × List ℕ) Flaw → Result ((Version × Store) × List ℕ) Flaw
after_magic read = followed_by read (λ version. counted version >>= λ made. done (version, made))

-- So far, of a dump of one array.
abbrev pub Far : (List ℕ → Type 0) → Parser (Version × Store) → Drawn → Drawn → Type 0
Far Here rest before now = ComesTo InStore up_to_end Here rest before now

module _ (before : Drawn) where
  pub at_magic : Far InStore (λ more. after_magic (grammar.begins more)) before before
  at_magic = comes_first InStore up_to_end before

  module _ (version : Version) where
    pub at_count : (one : Drawn) → ReadsValue grammar.begins version before one → Far (InCounted version) (λ more. after_count version (grammar.array_count more)) before one
    at_count one read = comes_on InStore up_to_end grammar.begins after_magic (λ fault. refl) before before one InCounted at_magic version read

    pub at_name : (one two : Drawn) → Far (InCounted version) (λ more. after_count version (grammar.array_count more)) before one → (count : ℕ) → count ≡ 1 →
        ReadsValue grammar.array_count count one two → Far (InArray version []) (λ more. after_name version (grammar.name [] more)) before two
    at_name one two far count is read =
        let one_more : 0 < 1 = omega arith in
        let all = comes_on InStore up_to_end grammar.array_count (after_count version) (λ fault. refl) before one two (InArrays version) far 1
        (subst (λ n. ReadsValue grammar.array_count n one two) is read) in
        comes_as InStore up_to_end (InArrays version 1) (λ more. after_count version (Ok (1, more))) before two all (InArray version []) (λ more. after_name version (grammar.name [] more))
        (λ input inside. (0, one_more, inside)) (λ input. refl)

    module _ (name : List ℕ) where
      pub at_kind : (two three : Drawn) → Far (InArray version []) (λ more. after_name version (grammar.name [] more)) before two → ReadsValue (grammar.name []) name two three →
          Far (InBody version) (λ more. after_kind version name (grammar.kind more)) before three
      at_kind two three far read = comes_on InStore up_to_end (grammar.name []) (after_name version) (λ fault. refl) before two three (λ name. InBody version) far name read

      pub at_limit : (three four : Drawn) (kind : ℕ) → Far (InBody version) (λ more. after_kind version name (grammar.kind more)) before three → ReadsValue grammar.kind kind three four →
          Far (Begins grammar.limit (λ limit. Begins (grammar.key_count limit) (In version kind limit))) (λ more. after_limit version name kind (grammar.limit more)) before four
      at_limit three four kind far read =
          comes_on InStore up_to_end grammar.kind (after_kind version name) (λ fault. refl) before three four
          (λ kind. Begins grammar.limit (λ limit. Begins (grammar.key_count limit) (In version kind limit))) far kind read

      pub at_key_count : (four five : Drawn) (kind limit : ℕ) →
          Far (Begins grammar.limit (λ limit. Begins (grammar.key_count limit) (In version kind limit))) (λ more. after_limit version name kind (grammar.limit more)) before four →
          ReadsValue grammar.limit limit four five →
          Far (Begins (grammar.key_count limit) (In version kind limit)) (λ more. after_key_count version name kind limit (grammar.key_count limit more)) before five
      at_key_count four five kind limit far read =
          comes_on InStore up_to_end grammar.limit (after_limit version name kind) (λ fault. refl) before four five (λ limit. Begins (grammar.key_count limit) (In version kind limit)) far limit read

      pub at_keys : (five six : Drawn) (kind limit count : ℕ) →
          Far (Begins (grammar.key_count limit) (In version kind limit)) (λ more. after_key_count version name kind limit (grammar.key_count limit more)) before five →
          ReadsValue (grammar.key_count limit) count five six → Far (In version kind limit count) (grammar.contents version kind limit count >>= alone version name) before six
      at_keys five six kind limit count far read =
          comes_as InStore up_to_end (In version kind limit count) (λ more. after_key_count version name kind limit (Ok (count, more))) before six
          (comes_on InStore up_to_end (grammar.key_count limit) (after_key_count version name kind limit) (λ fault. refl) before five six (In version kind limit) far count read)
          (In version kind limit count) (grammar.contents version kind limit count >>= alone version name) (λ input inside. inside)
          (λ input. after_body_alone version name (grammar.contents version kind limit count input))

-- A part that can't be read stops the load.
pub head_stopped : {A : Type 0} (part : Parser A) (inside : Result (A × List ℕ) Flaw → Result ((Version × Store) × List ℕ) Flaw) (stopped : (fault : Flaw) → inside (Err fault) ≡ Err fault)
    (Here : List ℕ → Type 0) (before mid after : Drawn) → Far Here (λ more. inside (part more)) before mid → (cause : Cause) → ReadsFault Nowhere part cause mid after →
    LoadsFault cause before after
head_stopped part inside stopped Here before mid after far cause next =
    stopped_early before after cause (comes_to_fault InStore up_to_end part inside stopped before mid after Here far cause next)

-- ---- another number of arrays, another kind

-- Nothing was read.
pub some_here : (Holds : List ℕ → List ℕ → Type 0) → ((more : List ℕ) → Holds more more) → (now : Drawn) → ReadSome Holds now now
some_here Holds holds now = record { input = []; given = sym (grown_nothing now.given); bytes = All-nil (λ byte. byte < 256); failures = refl; holds = holds }

pub some_with : (P : Type 0) (Holds : List ℕ → List ℕ → Type 0) (before after : Drawn) → P → ReadSome Holds before after → ReadSome (λ more input. P × Holds more input) before after
some_with P Holds before after p read = record { input = read.input; given = read.given; bytes = read.bytes; failures = read.failures; holds = λ more. (p, read.holds more) }

pub some_then : {A : Type 0} (part : Parser A) (value : A) (Holds : List ℕ → A → List ℕ → Type 0) (before mid after : Drawn) → ReadsValue part value before mid →
    ReadSome (λ more. Holds more value) mid after → ReadSome (λ more. Begins part (Holds more)) before after
some_then part value Holds before mid after first next = record {
  input = first.input ++ next.input;
  given = next.given ∙ ap (λ known. grown known next.input) first.given ∙ grown-grown before.given first.input next.input;
  bytes = All-append (λ byte. byte < 256) first.input next.input first.bytes next.bytes;
  failures = next.failures ∙ first.failures;
  holds = λ more.
      subst (Begins part (Holds more)) (sym (append_assoc first.input next.input more)) (begins_then part value before mid first (Holds more) (next.input ++ more) (next.holds more));
}

-- ---- the keys, with another limit than the dump tells

module _ {K : Type 0} {map_order : K → K → Ordering} (kind : ArrayOf map_order → ArrayValue) (back : ArrayValue → ArrayOf map_order) (is_back : (array : ArrayOf map_order) → back (kind array) ≡ array)
    (told limit : ℕ) where
  abbrev with_limit : ℕ → List (K × ℕ) → Parser ArrayValue
  with_limit most held = done (kind (record { limit = most; map = from_entries {R = map_order} held }))

  same_fault : (read : Result (List (K × ℕ) × List ℕ) Flaw) (fault : Flaw) → followed_by read (with_limit told) ≡ Err fault → followed_by read (with_limit limit) ≡ Err fault
  same_fault (Ok held) fault is = absurd cc
  same_fault (Err other) fault is = is

  same_behind : (read : Result (List (K × ℕ) × List ℕ) Flaw) → Behind (followed_by read (with_limit told)) (λ _ rest. rest ≡ []) → Behind (followed_by read (with_limit limit)) (λ _ rest. rest ≡ [])
  same_behind (Ok held) is = is
  same_behind (Err other) is = absurd is

  same_made : (held : List (K × ℕ)) (made : ArrayOf map_order) → kind (record { limit = told; map = from_entries held }) ≡ kind made → record { limit = told; map = from_entries held } ≡ made
  same_made held made is = sym (is_back (record { limit = told; map = from_entries held })) ∙ ap back is ∙ is_back made

  same_value : (read : Result (List (K × ℕ) × List ℕ) Flaw) (made : ArrayOf map_order) (more : List ℕ) → followed_by read (with_limit told) ≡ Ok (kind made, more) →
      followed_by read (with_limit limit) ≡ Ok (kind (record { limit = limit; map = made.map }), more)
  same_value (Ok held) made more is =
      let both = done_ok (kind (record { limit = told; map = from_entries held.0 })) held.1 (kind made) more is in
      let behind = both.1 in
      let maps = ap (λ (array : ArrayOf map_order). array.map) (same_made held.0 made both.0) in
      (λ t. Ok (kind (record { limit = limit; map = maps t }), behind t))
  same_value (Err other) made more is = absurd cc

  limit_told : (read : Result (List (K × ℕ) × List ℕ) Flaw) (made : ArrayOf map_order) (more : List ℕ) → followed_by read (with_limit told) ≡ Ok (kind made, more) → made.limit ≡ told
  limit_told (Ok held) made more is =
      let both = done_ok (kind (record { limit = told; map = from_entries held.0 })) held.1 (kind made) more is in
      sym (ap (λ (array : ArrayOf map_order). array.limit) (same_made held.0 made both.0))
  limit_told (Err other) made more is = absurd cc

  module _ (listed : ℕ → Parser (List (K × ℕ))) (count : ℕ) (mid after : Drawn) where
    -- The array that was read has the limit that was told.
    pub made_limit : (made : ArrayOf map_order) → ReadsValue (filled kind told (listed count)) (kind made) mid after → made.limit ≡ told
    made_limit made read = limit_told (listed count (read.input ++ [])) made [] (read.gives [])

    other_limit : (made : ArrayOf map_order) → ReadsValue (filled kind told (listed count)) (kind made) mid after →
        ReadsValue (filled kind limit (listed count)) (kind (record { limit = limit; map = made.map })) mid after
    other_limit made read = record {
      input = read.input;
      given = read.given;
      bytes = read.bytes;
      failures = read.failures;
      gives = λ more. same_value (listed count (read.input ++ more)) made more (read.gives more);
      cut_before = λ front later byte is. same_fault (listed count front) truncated (read.cut_before front later byte is);
    }

    at_some : (input : List ℕ) → AtSome (λ n. filled kind told (listed n)) count input → AtSome (λ n. filled kind limit (listed n)) count input
    at_some input at = (at.0, at.1, same_behind (listed at.0 input) at.2)

    other_fault : (cause : Cause) → ReadsFault (AtSome (λ n. filled kind told (listed n)) count) (filled kind told (listed count)) cause mid after →
        ReadsFault (AtSome (λ n. filled kind limit (listed n)) count) (filled kind limit (listed count)) cause mid after
    other_fault cause read = record {
      input = read.input;
      given = read.given;
      bytes = read.bytes;
      stops =
          stops_too (AtSome (λ n. filled kind told (listed n)) count) (AtSome (λ n. filled kind limit (listed n)) count) (λ front. filled kind told (listed count) front ≡ Err truncated)
          (λ front. filled kind limit (listed count) front ≡ Err truncated) (filled kind told (listed count)) (filled kind limit (listed count)) read.input mid after
          (λ input fault is. same_fault (listed count input) fault is) (at_some read.input) (λ front is. same_fault (listed count front) truncated is) cause read.stops;
    }

    module _ (version : Version) (name : List ℕ) (before : Drawn)
        (far : Far (AtSome (λ n. filled kind limit (listed n)) count) (filled kind limit (listed count) >>= alone version name) before mid) where
      -- What stops the reading of the keys stops the load.
      pub keys_stopped : (cause : Cause) → ReadsFault (AtSome (λ n. filled kind told (listed n)) count) (filled kind told (listed count)) cause mid after → LoadsFault cause before after
      keys_stopped cause read =
          stopped_early before after cause (comes_stopped InStore up_to_end (filled kind limit (listed count)) (λ read. followed_by read (alone version name)) (λ fault. refl) before mid after
          (AtSome (λ n. filled kind limit (listed n)) count) (AtSome (λ n. filled kind limit (listed n)) count) (λ input at. at) far cause (other_fault cause read))

      -- The keys were read, and the end may come.
      pub keys_read : (made : ArrayOf map_order) → ReadsValue (filled kind told (listed count)) (kind made) mid after →
          ReadsValue up_to_end (version, (name, kind (record { limit = limit; map = made.map })) ∷ []) before after
      keys_read made read =
          let held = kind (record { limit = limit; map = made.map }) in
          comes_to_value InStore up_to_end (AtSome (λ n. filled kind limit (listed n)) count) (filled kind limit (listed count) >>= alone version name) before mid far after
          (version, (name, held) ∷ [])
          (value_then (filled kind limit (listed count)) (alone version name) held mid after (other_limit made read) (version, (name, held) ∷ []) after (value_done (version, (name, held) ∷ []) after))

      -- What was read ends behind them.
      pub keys_end : (made : ArrayOf map_order) → ReadsValue (filled kind told (listed count)) (kind made) mid after → EndsBehindEntry before after
      unfolding other_limit
      keys_end made read =
          let whole = other_limit made read in
          let all : count ≤ count = omega arith in
          let at : AtSome (λ n. filled kind limit (listed n)) count (read.input ++ []) = (count, all, subst (λ r. Behind r (λ _ rest. rest ≡ [])) (sym (whole.gives [])) refl) in
          let more = far.input ++ (read.input ++ []) in (
            more,
            read.given ∙ ap (λ known. grown known read.input) far.given ∙ grown-grown before.given far.input read.input ∙ ap (λ last. grown before.given (far.input ++ last)) (sym
                (append-nil read.input)),
            ends_at_entry more (far.holds (read.input ++ []) at),
          )

-- ---- what is answered where the load was stopped

pub head_err : (kind : ℕ) (before after : Drawn) (fault : OneFault) (result : Result Head OneFault) → IsErrAnd result (λ told. told ≡ fault) → OneStopped kind fault before after →
    HeadRead kind before result after
head_err kind before after fault (Ok head) is stopped = absurd is
head_err kind before after fault (Err other) is stopped = subst (λ f. OneStopped kind f before after) (sym is) stopped

pub one_err : {X : Type 0} (kind : ℕ) (with_most : ℕ → X → ArrayValue) (before after : Drawn) (fault : OneFault) (result : Result X OneFault) → IsErrAnd result (λ told. told ≡ fault) →
    OneStopped kind fault before after → LoadedOne kind with_most before result after
one_err kind with_most before after fault (Ok made) is stopped = absurd is
one_err kind with_most before after fault (Err other) is stopped = subst (λ f. OneStopped kind f before after) (sym is) stopped

-- ---- the array behind a value of its kind

abbrev pub words_back : ArrayValue → ArrayOf word_order
words_back (judy1 set) = set
words_back (judyl words) = words
words_back (judysl strings) = empty_array 0
words_back (judyhs bytes) = empty_array 0

abbrev pub strings_back : ArrayValue → ArrayOf byte_order
strings_back (judy1 set) = empty_array 0
strings_back (judyl words) = empty_array 0
strings_back (judysl strings) = strings
strings_back (judyhs bytes) = bytes
