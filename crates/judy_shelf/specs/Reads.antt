-- What a source gave where a part of a dump was read from it, and what is known of the part.
use Rattle.std.specs.Prelude.{◌≡◌, ℕ, ◌+◌, ◌<◌, ◌≤◌, Bool, true, false, List, [], ◌∷◌, ◌++◌, Option, IfSome, Result, Ok, Err}
use Rattle.std.specs.declared.cmp.Ordering.{Ordering}
use Rattle.judy_model.specs.Keys.{IsByteString}
use Rattle.judy_model.specs.Arrays.{ArrayOf, ArrayValue}
use Rattle.judy_model.specs.Stores.{Store, IsStore, IsRegular}
use Rattle.judy_model.specs.Fields as fields
use Rattle.judy_model.specs.Fields.{Flaw, Parser, ◌>>=◌, done, Begins}
use Rattle.judy_model.specs.DumpText.{Version}
use Rattle.judy_model.specs.DumpGrammar as grammar
use Rattle.judy_model.specs.DumpGrammar.{IsDump}
use Rattle.judy_model.specs.DumpPlaces.{EndsAtEntry}
use Rattle.judy_pipe.specs.Pipe.{grown}
use Rattle.judy_shelf.specs.declared.fault.LoadFault.{LoadFault}
use Rattle.judy_shelf.specs.declared.fault.LoadFault.TheVariants as load
use Rattle.judy_shelf.specs.Shelves.{Entries, store_of}

-- What a source tells: the bytes that it gave and whether it ended, where it tells them, and how often it failed.
pub record Drawn : Type 0 where
  pub given : Option (List ℕ)
  pub ended : Option Bool
  pub failures : ℕ

-- The same put together.
abbrev pub drawn : Option (List ℕ) → Option Bool → ℕ → Drawn
drawn given ended failures = record { given = given; ended = ended; failures = failures }

-- Where a load fault comes from.
pub data Cause : Type 0 where
  -- the reader failed
  reader : Cause
  -- there is no memory
  memory : Cause
  -- the bytes ended
  cut : Cause
  -- a fault of the grammar
  told : Flaw → Cause

-- The cause of a fault of the code.
abbrev pub cause_of : LoadFault → Cause
cause_of load.Read = reader
cause_of load.Truncated = cut
cause_of load.BadMagic = told fields.bad_magic
cause_of load.TooMany = told fields.too_many
cause_of load.BadName = told fields.bad_name
cause_of load.SameName = told fields.same_name
cause_of load.BadKind = told fields.bad_kind
cause_of load.BadLimit = told fields.bad_limit
cause_of load.BadCount = told fields.bad_count
cause_of load.BadKey = told fields.bad_key
cause_of load.BadOrder = told fields.bad_order
cause_of load.Trailing = told fields.trailing
cause_of load.NoMemory = memory
cause_of load.BadPrefix = told fields.bad_prefix

-- A part has a fault, whatever comes after the bytes.
abbrev pub IsFaulty : {A : Type 0} → Parser A → List ℕ → Flaw → Type 0
IsFaulty part input fault = (more : List ℕ) → part (input ++ more) ≡ Err fault

-- This holds of each proper front of bytes.
abbrev pub OfFronts : (List ℕ → Type 0) → List ℕ → Type 0
OfFronts Holds input = (front later : List ℕ) (byte : ℕ) → input ≡ front ++ byte ∷ later → Holds front

-- A part has no fault, or finds the bytes cut off.
abbrev pub IsWholeOrCut : {A : Type 0} → Result (A × List ℕ) Flaw → Type 0
IsWholeOrCut (Ok read) = Unit {0}
IsWholeOrCut (Err fault) = fault ≡ fields.truncated

-- What stopped the reading of a part behind these bytes. Told are the bytes behind which memory may be wanted, and
-- what holds of those that were read before a fault or a failure of the reader.
abbrev pub Stops : {A : Type 0} → (List ℕ → Type 0) → (List ℕ → Type 0) → Parser A → List ℕ → Drawn → Drawn → Cause → Type 0
Stops Wants Early part input before after reader = (after.failures ≡ before.failures + 1) × Early input
Stops Wants Early part input before after memory = (after.failures ≡ before.failures) × Wants input
Stops Wants Early part input before after cut = (after.failures ≡ before.failures) × IfSome after.ended (λ ended. ended ≡ true) × (part input ≡ Err fields.truncated)
Stops Wants Early part input before after (told fault) = (after.failures ≡ before.failures) × IsFaulty part input fault × OfFronts Early input

-- A part was read whole, and no byte behind it, and gives a value, whatever comes after it.
pub record ReadsValue {A : Type 0} (part : Parser A) (value : A) (before after : Drawn) : Type 0 where
  pub input : List ℕ
  pub given : after.given ≡ grown before.given input
  pub bytes : IsByteString input
  pub failures : after.failures ≡ before.failures
  pub gives : (more : List ℕ) → part (input ++ more) ≡ Ok (value, more)
  pub cut_before : OfFronts (λ front. part front ≡ Err fields.truncated) input

-- The reading of a part was stopped.
pub record StopsSo {A : Type 0} (Wants Early : List ℕ → Type 0) (part : Parser A) (cause : Cause) (before after : Drawn) : Type 0 where
  pub input : List ℕ
  pub given : after.given ≡ grown before.given input
  pub bytes : IsByteString input
  pub stops : Stops Wants Early part input before after cause

-- The same of a part that is cut off where fewer bytes are there.
abbrev pub ReadsFault : {A : Type 0} → (List ℕ → Type 0) → Parser A → Cause → Drawn → Drawn → Type 0
ReadsFault Wants part cause before after = StopsSo Wants (λ front. part front ≡ Err fields.truncated) part cause before after

-- The same of the end of the bytes, which is there where fewer are.
abbrev pub EndFault : Cause → Drawn → Drawn → Type 0
EndFault cause before after = StopsSo (λ input. ⊥) (λ front. IsWholeOrCut (fields.end front)) fields.end cause before after

-- One or the other, by what was answered.
abbrev pub ReadsWanting : {X A : Type 0} → (List ℕ → Type 0) → (X → A) → Parser A → Drawn → Result X LoadFault → Drawn → Type 0
ReadsWanting Wants view part before (Ok value) after = ReadsValue part (view value) before after
ReadsWanting Wants view part before (Err fault) after = ReadsFault Wants part (cause_of fault) before after

-- Memory is wanted nowhere.
abbrev pub Nowhere : List ℕ → Type 0
Nowhere input = ⊥

-- A part for which no memory is wanted.
abbrev pub Reads : {X A : Type 0} → (X → A) → Parser A → Drawn → Result X LoadFault → Drawn → Type 0
Reads view part before result after = ReadsWanting Nowhere view part before result after

-- One more byte came, or the end; or the source failed.
abbrev pub ReadsOne : Drawn → Result Bool LoadFault → Drawn → Type 0
ReadsOne before (Ok false) after = (after.given ≡ before.given) × (after.failures ≡ before.failures) × IfSome after.ended (λ ended. ended ≡ true)
ReadsOne before (Ok true) after = (byte : ℕ) × (after.given ≡ grown before.given (byte ∷ [])) × (after.failures ≡ before.failures) × (byte < 256)
ReadsOne before (Err fault) after = EndFault (cause_of fault) before after

-- The end was met where one more byte was asked for; or one came, or the source failed.
abbrev pub Ends : Drawn → Result (Unit {0}) LoadFault → Drawn → Type 0
Ends before (Ok done) after = (after.given ≡ before.given) × (after.failures ≡ before.failures) × IfSome after.ended (λ ended. ended ≡ true)
Ends before (Err fault) after = EndFault (cause_of fault) before after

-- ---- where memory is wanted

-- Behind the first of so many, the second, and so on, or before all of them, and nothing after it.
abbrev pub AtSome : {A : Type 0} → (ℕ → Parser A) → ℕ → List ℕ → Type 0
AtSome part count input = (listed : ℕ) × (listed ≤ count) × Begins (part listed) (λ _ rest. rest ≡ []) input

-- So many entries of an array were read, behind each of which memory may be wanted, and gave the array that holds them.
abbrev pub Fills : {K X : Type 0} {map_order : K → K → Ordering} → (ArrayOf map_order → ArrayValue) → ℕ → (ℕ → Parser (List (K × ℕ))) → ℕ → (X → ArrayValue) →
    Drawn → Result X LoadFault → Drawn → Type 0
Fills kind limit entries count view before result after =
    ReadsWanting (AtSome (λ listed. grammar.filled kind limit (entries listed)) count) view (grammar.filled kind limit (entries count)) before result after

-- Behind a key count, and behind each entry.
abbrev pub InBody : Version → List ℕ → Type 0
InBody version = Begins grammar.kind (λ kind. Begins grammar.limit (λ limit. Begins (grammar.key_count limit) (λ count. AtSome (grammar.contents version kind limit) count)))

-- The same in an array whose name no earlier one has.
abbrev pub InArray : Version → Store → List ℕ → Type 0
InArray version earlier = Begins (grammar.name earlier) (λ name. InBody version)

-- In one of so many arrays.
abbrev pub InArrays : Version → ℕ → List ℕ → Type 0
InArrays version count input = (earlier : ℕ) × (earlier < count) × Begins (grammar.arrays version [] earlier) (InArray version) input

-- Behind the name of the format.
abbrev pub InCounted : Version → List ℕ → Type 0
InCounted version = Begins grammar.array_count (InArrays version)

-- In a dump.
abbrev pub InStore : List ℕ → Type 0
InStore = Begins grammar.begins InCounted

-- ---- a whole dump

-- The number of arrays, and these.
abbrev pub counted : Version → Parser Store
counted version = do
  count ← grammar.array_count
  grammar.arrays version [] count

-- All of a dump but its end.
abbrev pub up_to_end : Parser (Version × Store)
up_to_end = do
  version ← grammar.begins
  made ← counted version
  done (version, made)

-- What a source gave to its end is the dump of a store in one of the formats, and the store is one, and regular.
pub record LoadsWhole (store : Store) (before after : Drawn) : Type 0 where
  pub input : List ℕ
  pub given : after.given ≡ grown before.given input
  pub bytes : IsByteString input
  pub failures : after.failures ≡ before.failures
  pub ended : IfSome after.ended (λ ended. ended ≡ true)
  pub version : Version
  pub is_dump : IsDump version input store
  pub is_store : IsStore store
  pub is_regular : IsRegular store

-- The load was stopped. What was read before a fault, each proper front of it, has no fault, but that it may be cut off;
-- so has all that was read before a failure of the reader.
abbrev pub LoadsFault : Cause → Drawn → Drawn → Type 0
LoadsFault cause before after = StopsSo EndsAtEntry (λ front. IsWholeOrCut (grammar.store front)) grammar.store cause before after

-- The store of a dump was loaded, or the load was stopped by the first fault of what was read.
abbrev pub Loaded : Drawn → Result Entries LoadFault → Drawn → Type 0
Loaded before (Ok entries) after = LoadsWhole (store_of entries) before after
Loaded before (Err fault) after = LoadsFault (cause_of fault) before after
