-- What a load of the bytes of one array gives.
use Rattle.std.specs.Prelude.{◌≡◌, ℕ, List, [], ◌∷◌, Some, Result, Ok, Err}
use Rattle.judy_model.specs.Arrays.{ArrayValue}
use Rattle.judy_model.specs.Stores.{IsStore, IsRegular}
use Rattle.judy_model.specs.Fields as fields
use Rattle.judy_model.specs.DumpText.{Version}
use Rattle.judy_model.specs.DumpGrammar.{IsDump, flaw_of}
use Rattle.judy_model.specs.DumpPlaces.{EndsAtEntry}
use Rattle.judy_pipe.specs.Pipe.{IsFront}
use Rattle.judy_shelf.specs.declared.one.OneFault.{OneFault}
use Rattle.judy_shelf.specs.declared.one.OneFault.TheVariants.{Load, NotOne, OtherKind}
use Rattle.judy_shelf.specs.Reads.{Cause, reader, memory, cut, told, cause_of}
use Rattle.judy_shelf.specs.Ones.{SaysOthers, SaysKindBeside}

-- Bytes are the dump of a store that has one array alone, under some name, in one of the formats; and with some limit this array is it.
pub record IsLoadedOf (array : ℕ → ArrayValue) (bytes : List ℕ) : Type 0 where
  pub version : Version
  pub name : List ℕ
  pub limit : ℕ
  pub is_dump : IsDump version bytes ((name, array limit) ∷ [])
  pub is_store : IsStore ((name, array limit) ∷ [])
  pub is_regular : IsRegular ((name, array limit) ∷ [])
  -- they end where one who loads them may want memory last
  pub ends : EndsAtEntry bytes

-- Why bytes gave no store: their first flaw, or want of memory behind a key count or an entry. No reader fails.
abbrev pub IsFaultOf : Cause → List ℕ → Type 0
IsFaultOf reader bytes = ⊥
IsFaultOf memory bytes = (front : List ℕ) × IsFront front bytes × EndsAtEntry front
IsFaultOf cut bytes = flaw_of bytes ≡ Some fields.truncated
IsFaultOf (told flaw) bytes = flaw_of bytes ≡ Some flaw

-- Why bytes gave no array of a kind.
abbrev pub IsRefused : ℕ → List ℕ → OneFault → Type 0
IsRefused kind bytes (Load fault) = IsFaultOf (cause_of fault) bytes
IsRefused kind bytes NotOne = (more : List ℕ) × SaysOthers more bytes
IsRefused kind bytes OtherKind = (more : List ℕ) × SaysKindBeside kind more bytes

-- The array was loaded, or refused.
abbrev pub IsLoaded : {X : Type 0} → ℕ → (ℕ → X → ArrayValue) → List ℕ → Result X OneFault → Type 0
IsLoaded kind with_limit bytes (Ok made) = IsLoadedOf (λ limit. with_limit limit made) bytes
IsLoaded kind with_limit bytes (Err fault) = IsRefused kind bytes fault
