-- What a source gave where the dump of one array was read from it.
use Rattle.std.specs.Prelude.{◌≡◌, ◌≢◌, ℕ, List, [], ◌∷◌, ◌++◌, Result, Ok, Err}
use Rattle.judy_model.specs.Keys.{IsByteString, byte_order}
use Rattle.judy_model.specs.Arrays.{ArrayOf, ArrayValue, judy1, judyl, judysl, judyhs}
use Rattle.judy_model.specs.Fields.{truncated, Parser, ◌>>=◌, done, Begins}
use Rattle.judy_model.specs.DumpGrammar as grammar
use Rattle.judy_model.specs.DumpPlaces.{EndsAtEntry}
use Rattle.judy_word.specs.WordArrays.{WordArray}
use Rattle.judy_pipe.specs.Pipe.{grown}
use Rattle.judy_shelf.specs.declared.one.Head.{Head}
use Rattle.judy_shelf.specs.declared.one.OneFault.{OneFault}
use Rattle.judy_shelf.specs.declared.one.OneFault.TheVariants.{Load, NotOne, OtherKind}
use Rattle.judy_shelf.specs.Reads.{Drawn, OfFronts, AtSome, InStore, up_to_end, LoadsWhole, LoadsFault, cause_of}
use Rattle.judy_shelf.specs.Versions.{format_of}

-- So far these bytes were read of a whole, and the rest is to come; and where what comes holds this, the whole holds that.
pub record ComesTo {B : Type 0} (Whole : List ℕ → Type 0) (whole : Parser B) (Here : List ℕ → Type 0) (rest : Parser B) (before now : Drawn) : Type 0 where
  pub input : List ℕ
  pub given : now.given ≡ grown before.given input
  pub bytes : IsByteString input
  pub failures : now.failures ≡ before.failures
  pub goes : (more : List ℕ) → whole (input ++ more) ≡ rest more
  pub cut_before : OfFronts (λ front. whole front ≡ Err truncated) input
  pub holds : (more : List ℕ) → Here more → Whole (input ++ more)

-- Bytes were read, of which this holds, whatever comes behind them.
pub record ReadSome (Holds : List ℕ → List ℕ → Type 0) (before after : Drawn) : Type 0 where
  pub input : List ℕ
  pub given : after.given ≡ grown before.given input
  pub bytes : IsByteString input
  pub failures : after.failures ≡ before.failures
  pub holds : (more : List ℕ) → Holds more (input ++ more)

-- Bytes say another number of arrays than one, and behind that come these.
abbrev pub SaysOthers : List ℕ → List ℕ → Type 0
SaysOthers more = Begins grammar.begins (λ version. Begins grammar.array_count (λ count rest. (count ≢ 1) × (rest ≡ more)))

-- Bytes say one array, and another kind of it than that of this number, and behind that come these.
abbrev pub SaysKindBeside : ℕ → List ℕ → List ℕ → Type 0
SaysKindBeside kind more =
    Begins grammar.begins (λ version. Begins grammar.array_count (λ count input. (count ≡ 1) × Begins (grammar.name []) (λ name. Begins grammar.kind (λ other rest. (other ≢ kind) × (rest ≡
    more))) input))

-- Why no array of a kind was loaded: the fault that a load of the bytes has, or it is another array or there are several.
abbrev pub OneStopped : ℕ → OneFault → Drawn → Drawn → Type 0
OneStopped kind (Load fault) before after = LoadsFault (cause_of fault) before after
OneStopped kind NotOne before after = ReadSome SaysOthers before after
OneStopped kind OtherKind before after = ReadSome (SaysKindBeside kind) before after

-- What stands before the keys was read, under some name and with some limit, and the keys are to come; or the load was stopped.
abbrev pub HeadRead : ℕ → Drawn → Result Head OneFault → Drawn → Type 0
HeadRead kind before (Ok head) after =
    (name : List ℕ) × (limit : ℕ)
    × ComesTo InStore up_to_end (AtSome (grammar.contents (format_of head.version) kind limit) head.count)
    (grammar.contents (format_of head.version) kind limit head.count >>= λ held. done (format_of head.version, (name, held) ∷ [])) before after
HeadRead kind before (Err fault) after = OneStopped kind fault before after

-- An array of the code with another limit as one of the definitions.
abbrev pub set_with : ℕ → WordArray → ArrayValue
set_with limit set = judy1 (record { limit = limit; map = set.map })

abbrev pub map_with : ℕ → WordArray → ArrayValue
map_with limit words = judyl (record { limit = limit; map = words.map })

abbrev pub strings_with : ℕ → ArrayOf byte_order → ArrayValue
strings_with limit strings = judysl (record { limit = limit; map = strings.map })

abbrev pub bytes_with : ℕ → ArrayOf byte_order → ArrayValue
bytes_with limit bytes = judyhs (record { limit = limit; map = bytes.map })

-- What was read ends behind a key count or an entry.
abbrev pub EndsBehindEntry : Drawn → Drawn → Type 0
EndsBehindEntry before after = (input : List ℕ) × (after.given ≡ grown before.given input) × EndsAtEntry input

-- The dump of one array was loaded, which has some name and some limit, or the load was stopped.
abbrev pub LoadedOne : {X : Type 0} → ℕ → (ℕ → X → ArrayValue) → Drawn → Result X OneFault → Drawn → Type 0
LoadedOne kind with_limit before (Ok made) after = (name : List ℕ) × (limit : ℕ) × LoadsWhole ((name, with_limit limit made) ∷ []) before after × EndsBehindEntry before after
LoadedOne kind with_limit before (Err fault) after = OneStopped kind fault before after
