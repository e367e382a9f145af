-- Parts that are read one after another.
use Rattle.std.proofs.Common.{◌≡◌, ℕ, ◌+◌, ◌<◌, Bool, true, false, cond, List, [], ◌∷◌, ◌++◌, Result, Ok, Err, refl, sym, ap, subst, ◌∙◌, append_assoc}
use Rattle.std.specs.Result.{IsErrAnd}
use Rattle.std.proofs.lemmas.List.Elements.{All-nil, All-append}
use Rattle.judy_model.specs.Keys.{IsByteString}
use Rattle.judy_model.specs.Fields.{Flaw, truncated, Parser, followed_by, ◌>>=◌, done, checked, field, Behind, Begins}
use Rattle.judy_pipe.specs.Pipe.{grown}
use Rattle.judy_pipe.proofs.Moves.{grown-grown}
use Rattle.judy_shelf.specs.declared.fault.LoadFault.{LoadFault}
use Rattle.judy_shelf.specs.Reads.{Drawn, Cause, reader, memory, cut, told, cause_of, OfFronts, Stops, ReadsValue, ReadsFault, ReadsWanting, Nowhere, Reads}
use Rattle.judy_shelf.proofs.FrontLemmas.{no_fronts, fronts_of_both}
use Rattle.judy_shelf.proofs.WriteLemmas.{grown_nothing}

-- ---- one part behind another

module _ {A B : Type 0} (Wants Also Early Before : List ℕ → Type 0) (part : Parser A) (other : Parser B) (input : List ℕ) (before after : Drawn)
    (same : (read : List ℕ) (fault : Flaw) → part read ≡ Err fault → other read ≡ Err fault) (also : Wants input → Also input) (early : (read : List ℕ) → Early read → Before read) where
  -- What stops a part stops all that begins with it.
  pub stops_too : (cause : Cause) → Stops Wants Early part input before after cause → Stops Also Before other input before after cause
  stops_too reader stops = (stops.0, early input stops.1)
  stops_too memory stops = (stops.0, also stops.1)
  stops_too cut stops = (stops.0, stops.1, same input truncated stops.2)
  stops_too (told fault) stops = (stops.0, (λ more. same (input ++ more) fault (stops.1 more)), λ front later byte is. early front (stops.2 front later byte is))

-- No memory is wanted nowhere.
pub nowhere : (Also : List ℕ → Type 0) (input : List ℕ) → Nowhere input → Also input
nowhere Also input never = absurd never

-- What holds of the bytes behind a part.
pub begins_then : {A : Type 0} (part : Parser A) (value : A) (before mid : Drawn) (first : ReadsValue part value before mid) (Holds : A → List ℕ → Type 0) (input : List ℕ) →
    Holds value input → Begins part Holds (first.input ++ input)
begins_then part value before mid first Holds input holds = subst (λ r. Behind r Holds) (sym (first.gives input)) holds

module _ {A B : Type 0} (part : Parser A) (rest : A → Parser B) where
  pub fault_within : (Wants Also : List ℕ → Type 0) → ((input : List ℕ) → Wants input → Also input) → (cause : Cause) (before after : Drawn) →
      ReadsFault Wants part cause before after → ReadsFault Also (part >>= rest) cause before after
  fault_within Wants Also also cause before after read = record {
    input = read.input;
    given = read.given;
    bytes = read.bytes;
    stops = stops_too Wants Also (λ front. part front ≡ Err truncated) (λ front. (part >>= rest) front ≡ Err truncated) part (part >>= rest) read.input before after
        (λ input fault is. ap (λ r. followed_by r rest) is) (also read.input) (λ front is. ap (λ r. followed_by r rest) is) cause read.stops;
  }

  pub fault_first : {Also : List ℕ → Type 0} → (cause : Cause) (before after : Drawn) → ReadsFault Nowhere part cause before after → ReadsFault Also (part >>= rest) cause before after
  fault_first {Also} cause before after read = fault_within Nowhere Also (nowhere Also) cause before after read

  module _ (value : A) (before mid : Drawn) (first : ReadsValue part value before mid) where
    both_given : (after : Drawn) (input : List ℕ) → after.given ≡ grown mid.given input → after.given ≡ grown before.given (first.input ++ input)
    both_given after input given = given ∙ ap (λ known. grown known input) first.given ∙ grown-grown before.given first.input input

    -- Behind the first part the rest is read from what comes after it.
    goes_on : (input : List ℕ) → (part >>= rest) (first.input ++ input) ≡ rest value input
    goes_on input = ap (λ r. followed_by r rest) (first.gives input)

    goes_on_more : (input more : List ℕ) → (part >>= rest) ((first.input ++ input) ++ more) ≡ rest value (input ++ more)
    goes_on_more input more = ap (part >>= rest) (append_assoc first.input input more) ∙ goes_on (input ++ more)

    -- Fewer bytes are cut off, in the first part or behind it.
    cut_before_both : (input : List ℕ) → OfFronts (λ front. rest value front ≡ Err truncated) input → OfFronts (λ front. (part >>= rest) front ≡ Err truncated) (first.input ++ input)
    cut_before_both input cut_later =
        fronts_of_both (λ front. (part >>= rest) front ≡ Err truncated) first.input input (λ front later byte is. ap (λ r. followed_by r rest) (first.cut_before front later byte is))
        (λ front later byte is. goes_on front ∙ cut_later front later byte is)

    later_stops : (Wants Also : List ℕ → Type 0) (after : Drawn) (input : List ℕ) → (Wants input → Also (first.input ++ input)) → (cause : Cause) →
        Stops Wants (λ front. rest value front ≡ Err truncated) (rest value) input mid after cause →
        Stops Also (λ front. (part >>= rest) front ≡ Err truncated) (part >>= rest) (first.input ++ input) before after cause
    later_stops Wants Also after input also reader stops = (stops.0 ∙ ap (λ n. n + 1) first.failures, goes_on input ∙ stops.1)
    later_stops Wants Also after input also memory stops = (stops.0 ∙ first.failures, also stops.1)
    later_stops Wants Also after input also cut stops = (stops.0 ∙ first.failures, stops.1, goes_on input ∙ stops.2)
    later_stops Wants Also after input also (told fault) stops = (stops.0 ∙ first.failures, (λ more. goes_on_more input more ∙ stops.1 more), cut_before_both input stops.2)

    pub fault_behind : (Wants Also : List ℕ → Type 0) → ((input : List ℕ) → Wants input → Also (first.input ++ input)) → (cause : Cause) (after : Drawn) →
        ReadsFault Wants (rest value) cause mid after → ReadsFault Also (part >>= rest) cause before after
    fault_behind Wants Also also cause after read = record {
      input = first.input ++ read.input;
      given = both_given after read.input read.given;
      bytes = All-append (λ byte. byte < 256) first.input read.input first.bytes read.bytes;
      stops = later_stops Wants Also after read.input (also read.input) cause read.stops;
    }

    pub fault_then : {Also : List ℕ → Type 0} → (cause : Cause) (after : Drawn) → ReadsFault Nowhere (rest value) cause mid after → ReadsFault Also (part >>= rest) cause before after
    fault_then {Also} cause after read = fault_behind Nowhere Also (λ input never. absurd never) cause after read

    pub value_then : (given : B) (after : Drawn) → ReadsValue (rest value) given mid after → ReadsValue (part >>= rest) given before after
    value_then given after read = record {
      input = first.input ++ read.input;
      given = both_given after read.input read.given;
      bytes = All-append (λ byte. byte < 256) first.input read.input first.bytes read.bytes;
      failures = read.failures ∙ first.failures;
      gives = λ more. goes_on_more read.input more ∙ read.gives more;
      cut_before = cut_before_both read.input read.cut_before;
    }

    pub reads_then : {X : Type 0} (view : X → B) (after : Drawn) (result : Result X LoadFault) → Reads view (rest value) mid result after → Reads view (part >>= rest) before result after
    reads_then view after (Ok given) read = value_then (view given) after read
    reads_then view after (Err fault) read = fault_then (cause_of fault) after read

    pub reads_behind : {X : Type 0} (Wants : A → List ℕ → Type 0) (view : X → B) (after : Drawn) (result : Result X LoadFault) →
        ReadsWanting (Wants value) view (rest value) mid result after → ReadsWanting (Begins part Wants) view (part >>= rest) before result after
    reads_behind Wants view after (Ok given) read = value_then (view given) after read
    reads_behind Wants view after (Err fault) read = fault_behind (Wants value) (Begins part Wants) (begins_then part value before mid first Wants) (cause_of fault) after read

-- A value for which nothing is read.
pub value_done : {A : Type 0} (value : A) (now : Drawn) → ReadsValue (done value) value now now
value_done value now = record {
  input = [];
  given = sym (grown_nothing now.given);
  bytes = All-nil (λ byte. byte < 256);
  failures = refl;
  gives = λ more. refl;
  cut_before = no_fronts (λ front. done value front ≡ Err truncated);
}

-- What is answered where the reading was stopped.
pub reads_err : {X A : Type 0} {Wants : List ℕ → Type 0} (view : X → A) (part : Parser A) (before after : Drawn) (fault : LoadFault) (result : Result X LoadFault) →
    IsErrAnd result (λ told. told ≡ fault) → ReadsFault Wants part (cause_of fault) before after → ReadsWanting Wants view part before result after
reads_err view part before after fault (Ok value) is read = absurd is
reads_err {Wants = Wants} view part before after fault (Err other) is read = subst (λ f. ReadsFault Wants part (cause_of f) before after) (sym is) read

-- ---- checks

module _ {A : Type 0} (part : Parser A) (value : A) (before after : Drawn) (read : ReadsValue part value before after) where
  -- A value that passes the check.
  pub value_passes : (test : A → Bool) (fault : Flaw) → test value ≡ true → ReadsValue (field part ((test, fault) ∷ [])) value before after
  value_passes test fault passes = record {
    input = read.input;
    given = read.given;
    bytes = read.bytes;
    failures = read.failures;
    gives = λ more. ap (λ r. followed_by r (checked ((test, fault) ∷ []))) (read.gives more) ∙ ap (λ b. cond b (Ok (value, more)) (Err fault)) passes;
    cut_before = λ front later byte is. ap (λ r. followed_by r (checked ((test, fault) ∷ []))) (read.cut_before front later byte is);
  }

  -- A value that doesn't pass the first of some checks.
  pub value_fails : (test : A → Bool) (fault : Flaw) (checks : List ((A → Bool) × Flaw)) → test value ≡ false → ReadsFault Nowhere (field part ((test, fault) ∷ checks)) (told fault) before after
  value_fails test fault checks fails = record {
    input = read.input;
    given = read.given;
    bytes = read.bytes;
    stops = (
      read.failures,
      (λ more. ap (λ r. followed_by r (checked ((test, fault) ∷ checks))) (read.gives more) ∙ ap (λ b. cond b (checked checks value more) (Err fault)) fails),
      (λ front later byte is. ap (λ r. followed_by r (checked ((test, fault) ∷ checks))) (read.cut_before front later byte is)),
    );
  }

-- ---- a whole of which a part is read

-- So far these bytes were read of a whole, and the rest is to come.
pub record Reading {A : Type 0} (whole rest : Parser A) (before now : Drawn) : Type 0 where
  pub input : List ℕ
  pub given : now.given ≡ grown before.given input
  pub bytes : IsByteString input
  pub failures : now.failures ≡ before.failures
  pub goes : (more : List ℕ) → whole (input ++ more) ≡ rest more
  pub cut_before : OfFronts (λ front. whole front ≡ Err truncated) input

module _ {B : Type 0} (whole : Parser B) where
  -- Nothing is to come.
  pub reading_end : (value : B) (before now : Drawn) → Reading whole (done value) before now → ReadsValue whole value before now
  reading_end value before now far = record { input = far.input; given = far.given; bytes = far.bytes; failures = far.failures; gives = far.goes; cut_before = far.cut_before }

  module _ (rest : Parser B) (before mid after : Drawn) (far : Reading whole rest before mid) where
    far_more : (input more : List ℕ) → whole ((far.input ++ input) ++ more) ≡ rest (input ++ more)
    far_more input more = ap whole (append_assoc far.input input more) ∙ far.goes (input ++ more)

    far_stops : (Wants Also : List ℕ → Type 0) (input : List ℕ) → (Wants input → Also (far.input ++ input)) → (cause : Cause) →
        Stops Wants (λ front. rest front ≡ Err truncated) rest input mid after cause → Stops Also (λ front. whole front ≡ Err truncated) whole (far.input ++ input) before after cause
    far_stops Wants Also input also reader stops = (stops.0 ∙ ap (λ n. n + 1) far.failures, far.goes input ∙ stops.1)
    far_stops Wants Also input also memory stops = (stops.0 ∙ far.failures, also stops.1)
    far_stops Wants Also input also cut stops = (stops.0 ∙ far.failures, stops.1, far.goes input ∙ stops.2)
    far_stops Wants Also input also (told fault) stops = (
      stops.0 ∙ far.failures,
      (λ more. far_more input more ∙ stops.1 more),
      fronts_of_both (λ front. whole front ≡ Err truncated) far.input input far.cut_before (λ front later byte is. far.goes front ∙ stops.2 front later byte is),
    )

    -- What stops the rest stops the whole.
    pub reading_fault : (Wants Also : List ℕ → Type 0) → ((input : List ℕ) → Wants input → Also (far.input ++ input)) → (cause : Cause) → ReadsFault Wants rest cause mid after →
        ReadsFault Also whole cause before after
    reading_fault Wants Also also cause next = record {
      input = far.input ++ next.input;
      given = next.given ∙ ap (λ known. grown known next.input) far.given ∙ grown-grown before.given far.input next.input;
      bytes = All-append (λ byte. byte < 256) far.input next.input far.bytes next.bytes;
      stops = far_stops Wants Also next.input (also next.input) cause next.stops;
    }

    -- What gives the rest gives the whole.
    pub reading_value : (value : B) → ReadsValue rest value mid after → ReadsValue whole value before after
    reading_value value next = record {
      input = far.input ++ next.input;
      given = next.given ∙ ap (λ known. grown known next.input) far.given ∙ grown-grown before.given far.input next.input;
      bytes = All-append (λ byte. byte < 256) far.input next.input far.bytes next.bytes;
      failures = next.failures ∙ far.failures;
      gives = λ more. far_more next.input more ∙ next.gives more;
      cut_before = fronts_of_both (λ front. whole front ≡ Err truncated) far.input next.input far.cut_before (λ front later byte is. far.goes front ∙ next.cut_before front later byte is);
    }

-- ---- two checks

module _ {A : Type 0} (part : Parser A) (value : A) (before after : Drawn) (read : ReadsValue part value before after) (one two : A → Bool) (fault other : Flaw) (first : one value ≡ true) where
  twice : (more : List ℕ) → field part ((one, fault) ∷ (two, other) ∷ []) (read.input ++ more) ≡ cond (two value) (Ok (value, more)) (Err other)
  twice more = ap (λ r. followed_by r (checked ((one, fault) ∷ (two, other) ∷ []))) (read.gives more) ∙ ap (λ b. cond b (cond (two value) (Ok (value, more)) (Err other)) (Err fault)) first

  cut_twice : OfFronts (λ front. field part ((one, fault) ∷ (two, other) ∷ []) front ≡ Err truncated) read.input
  cut_twice front later byte is = ap (λ r. followed_by r (checked ((one, fault) ∷ (two, other) ∷ []))) (read.cut_before front later byte is)

  -- A value that passes both.
  pub value_passes_both : two value ≡ true → ReadsValue (field part ((one, fault) ∷ (two, other) ∷ [])) value before after
  value_passes_both second = record {
    input = read.input;
    given = read.given;
    bytes = read.bytes;
    failures = read.failures;
    gives = λ more. twice more ∙ ap (λ b. cond b (Ok (value, more)) (Err other)) second;
    cut_before = cut_twice;
  }

  -- A value that doesn't pass the second.
  pub value_fails_second : two value ≡ false → ReadsFault Nowhere (field part ((one, fault) ∷ (two, other) ∷ [])) (told other) before after
  value_fails_second second = record {
    input = read.input;
    given = read.given;
    bytes = read.bytes;
    stops = (read.failures, (λ more. twice more ∙ ap (λ b. cond b (Ok (value, more)) (Err other)) second), cut_twice);
  }
