-- Numbers as std reads them from bytes, and as the definitions do.
use Rattle.std.proofs.Common.{◌≡◌, ℕ, Result, List, [], ◌∷◌, length, get_or, subst, arith}
use Rattle.std.specs.Result.{IsErrAnd}
use Rattle.std.specs.Int.{w16, w32, w64, from_be_bytes}
use Rattle.judy_model.specs.WordBytes.{number_of}
use Rattle.judy_model.specs.Fields.{done, bytes, number}
use Rattle.judy_shelf.specs.declared.fault.LoadFault.{LoadFault}
use Rattle.judy_shelf.specs.Reads.{Drawn, cause_of, ReadsValue, ReadsFault, Reads, Nowhere}
use Rattle.judy_shelf.proofs.ReadLemmas.{reads_err, fault_first, value_then, value_done}

pub from_1 : (read : List ℕ) → length read ≡ 1 → number_of read ≡ get_or read 0 0
from_1 [] long = absurd (omega arith)
from_1 (a ∷ []) long = omega arith
from_1 (a ∷ b ∷ rest) long = absurd (omega arith)

pub from_be_2 : (read : List ℕ) → length read ≡ 2 → number_of read ≡ from_be_bytes w16 read
from_be_2 [] long = absurd (omega arith)
from_be_2 (a ∷ []) long = absurd (omega arith)
from_be_2 (a ∷ b ∷ []) long = omega arith
from_be_2 (a ∷ b ∷ c ∷ rest) long = absurd (omega arith)

pub from_be_4 : (read : List ℕ) → length read ≡ 4 → number_of read ≡ from_be_bytes w32 read
from_be_4 [] long = absurd (omega arith)
from_be_4 (a ∷ []) long = absurd (omega arith)
from_be_4 (a ∷ b ∷ []) long = absurd (omega arith)
from_be_4 (a ∷ b ∷ c ∷ []) long = absurd (omega arith)
from_be_4 (a ∷ b ∷ c ∷ d ∷ []) long = omega arith
from_be_4 (a ∷ b ∷ c ∷ d ∷ e ∷ rest) long = absurd (omega arith)

pub from_be_8 : (read : List ℕ) → length read ≡ 8 → number_of read ≡ from_be_bytes w64 read
from_be_8 [] long = absurd (omega arith)
from_be_8 (a ∷ []) long = absurd (omega arith)
from_be_8 (a ∷ b ∷ []) long = absurd (omega arith)
from_be_8 (a ∷ b ∷ c ∷ []) long = absurd (omega arith)
from_be_8 (a ∷ b ∷ c ∷ d ∷ []) long = absurd (omega arith)
from_be_8 (a ∷ b ∷ c ∷ d ∷ e ∷ []) long = absurd (omega arith)
from_be_8 (a ∷ b ∷ c ∷ d ∷ e ∷ f ∷ []) long = absurd (omega arith)
from_be_8 (a ∷ b ∷ c ∷ d ∷ e ∷ f ∷ g ∷ []) long = absurd (omega arith)
from_be_8 (a ∷ b ∷ c ∷ d ∷ e ∷ f ∷ g ∷ h ∷ []) long = omega arith
from_be_8 (a ∷ b ∷ c ∷ d ∷ e ∷ f ∷ g ∷ h ∷ i ∷ rest) long = absurd (omega arith)

-- A number whose bytes were read.
pub number_read : (width : ℕ) (read : List ℕ) (value : ℕ) (before after : Drawn) → ReadsValue (bytes width) read before after → number_of read ≡ value → ReadsValue (number width) value before after
number_read width read value before after first is =
    value_then (bytes width) (λ spelled. done (number_of spelled)) read before after first value after
    (subst (λ n. ReadsValue (done (number_of read)) n after after) is (value_done (number_of read) after))

-- A number whose bytes couldn't be read.
pub number_stopped : (width : ℕ) (before after : Drawn) (fault : LoadFault) (result : Result ℕ LoadFault) → IsErrAnd result (λ told. told ≡ fault) →
    ReadsFault Nowhere (bytes width) (cause_of fault) before after → Reads (λ n. n) (number width) before result after
number_stopped width before after fault result is first =
    reads_err (λ n. n) (number width) before after fault result is (fault_first (bytes width) (λ spelled. done (number_of spelled)) (cause_of fault) before after first)
