-- The buckets of ascending keys: their bytes ascend, and what is left of the keys of each.
use Rattle.std.proofs.Common.{◌≡◌, ◌≢◌, ℕ, suc, ◌+◌, ◌*◌, ◌/◌, ◌%◌, ◌^◌, ◌<◌, ◌≤◌, ⊎_elim, true, false, cond, eqb, List, [], ◌∷◌, ◌++◌, length, sym, refl, ap, ◌∙◌, subst, arith}
use Rattle.std.proofs.Math.Nat.{add-mul}
use Rattle.std.proofs.lemmas.Nat.{div-add-mod', mod_below, le-div}
use Rattle.std.proofs.lemmas.Bool.{eq-eqb, ne_eqb}
use Rattle.std.proofs.lemmas.Bool.Decides.{eqb_tells}
use Rattle.judy_model.specs.Forms.{raise}
use Rattle.judy_model.specs.Shapes.{Bucket, with_key, buckets_of, AllBelow}
use Rattle.judy_model.specs.Ways.{Ascends}
use Rattle.judy_model.proofs.lemmas.forms.FormLemmas.{joined}
use Rattle.judy_model.proofs.lemmas.queries.AlikeLemmas.{FromBlock, InBlock-raise, FromBlock-in, FromBlock-append, FromBlock-less}

-- Buckets by ascending byte from one on, each of some keys, whose rests ascend and are below the unit of the byte.
abbrev pub AreChained : ℕ → ℕ → List Bucket → Type 0
AreChained unit low [] = Unit {0}
AreChained unit low (bucket ∷ buckets) = (low ≤ bucket.0) × (0 < length bucket.1) × AllBelow unit bucket.1 × Ascends 0 bucket.1 × AreChained unit (bucket.0 + 1) buckets

-- Where the first bucket has the byte of a number, its keys aren't below what the number has behind that byte.
abbrev FirstFrom : ℕ → ℕ → List Bucket → Type 0
FirstFrom unit low [] = Unit {0}
FirstFrom unit low (bucket ∷ buckets) = bucket.0 ≡ low / unit → Ascends (low % unit) bucket.1

-- ---- a key and a number below it

byte_not_below : (unit low key : ℕ) → 0 < unit → low ≤ key → low / unit ≤ key / unit
byte_not_below unit low key some least = let split = div-add-mod' low unit in le-div (low / unit) key unit some (omega arith)

rest_not_below : (unit low key : ℕ) → low ≤ key → key / unit ≡ low / unit → low % unit ≤ key % unit
rest_not_below unit low key least same =
    let product = ap (λ q. q * unit) same in
    let one = div-add-mod' low unit in
    let other = div-add-mod' key unit in
    omega arith

rest_of_next : (unit key : ℕ) → (key + 1) / unit ≡ key / unit → (key + 1) % unit ≡ key % unit + 1
rest_of_next unit key same =
    let product = ap (λ q. q * unit) same in
    let one = div-add-mod' key unit in
    let other = div-add-mod' (key + 1) unit in
    omega arith

-- ---- one key more

abbrev Both : ℕ → ℕ → List Bucket → Type 0
Both unit low buckets = AreChained unit (low / unit) buckets × FirstFrom unit low buckets

-- A bucket of its own.
first_alone : (unit low key : ℕ) (buckets : List Bucket) → 0 < unit → low ≤ key → AreChained unit (key / unit + 1) buckets → Both unit low ((key / unit, key % unit ∷ []) ∷ buckets)
first_alone unit low key buckets some least chain = (
  (byte_not_below unit low key some least, (let e : 0 < 1 = omega arith in e), (mod_below key unit some, tt), ((let e : 0 ≤ key % unit = omega arith in e), tt), chain),
  λ same. (rest_not_below unit low key least same, tt),
)

chain-with_key : (unit low key : ℕ) (buckets : List Bucket) → 0 < unit → low ≤ key → Both unit (key + 1) buckets → Both unit low (with_key (key / unit) (key % unit) buckets)
chain-with_key unit low key [] some least both = first_alone unit low key [] some least tt
chain-with_key unit low key (bucket ∷ buckets) some least both =
    let chain = both.0 in
    let next = byte_not_below unit key (key + 1) some (let e : key ≤ key + 1 = omega arith in e) in
    let above : (key + 1) / unit ≤ bucket.0 = chain.0 in
    ⊎_elim
    (λ (h : (eqb (key / unit) bucket.0 ≡ true) × (key / unit ≡ bucket.0)).
    let here = h.1 in
    let same : (key + 1) / unit ≡ key / unit = omega arith in
    let first : bucket.0 ≡ (key + 1) / unit = omega arith in
    let rest : Ascends (key % unit + 1) bucket.1 = subst (λ n. Ascends n bucket.1) (rest_of_next unit key same) (both.1 first) in
    let later : AreChained unit (key / unit + 1) buckets = subst (λ byte. AreChained unit (byte + 1) buckets) (sym here) chain.4 in
    let joined_up : Both unit low ((key / unit, key % unit ∷ bucket.1) ∷ buckets) = (
      (byte_not_below unit low key some least, (let e : 0 < suc (length bucket.1) = omega arith in e), (mod_below key unit some, chain.2), ((let e : 0 ≤ key % unit = omega arith in e), rest), later),
      λ is. (rest_not_below unit low key least is, rest),
    ) in
    subst (λ b. Both unit low (cond b ((key / unit, key % unit ∷ bucket.1) ∷ buckets) ((key / unit, key % unit ∷ []) ∷ bucket ∷ buckets))) (sym h.0) joined_up)
    (λ (h : (eqb (key / unit) bucket.0 ≡ false) × (key / unit ≢ bucket.0)).
    let apart = h.1 in
    let later : AreChained unit (key / unit + 1) (bucket ∷ buckets) = ((let e : key / unit + 1 ≤ bucket.0 = omega arith in e), chain.1, chain.2, chain.3, chain.4) in
    subst (λ b. Both unit low (cond b ((key / unit, key % unit ∷ bucket.1) ∷ buckets) ((key / unit, key % unit ∷ []) ∷ bucket ∷ buckets))) (sym h.0)
    (first_alone unit low key (bucket ∷ buckets) some least later))
    (eqb_tells (key / unit) bucket.0)

chain-both : (unit low : ℕ) (keys : List ℕ) → 0 < unit → Ascends low keys → Both unit low (buckets_of unit keys)
chain-both unit low [] some up = (tt, tt)
chain-both unit low (key ∷ keys) some up = chain-with_key unit low key (buckets_of unit keys) some up.0 (chain-both unit (key + 1) keys some up.1)

-- The buckets of ascending keys.
pub chain-buckets_of : (unit low : ℕ) (keys : List ℕ) → 0 < unit → Ascends low keys → AreChained unit (low / unit) (buckets_of unit keys)
chain-buckets_of unit low keys some up = (chain-both unit low keys some up).0

-- ---- where their keys stand

-- Where the keys of a byte begin, in a branch whose words begin with a whole block.
pub start-block : (unit from whole block byte : ℕ) → from ≡ whole * unit → from + (block + byte) * unit ≡ (whole + (block + byte)) * unit
start-block unit from whole block byte is = let spread = add-mul whole (block + byte) unit in omega arith

pub FromBlock-joined : (unit from whole block low : ℕ) (buckets : List Bucket) → from ≡ whole * unit → AreChained unit low buckets →
    FromBlock unit (whole + block + low) (joined from block unit buckets)
FromBlock-joined unit from whole block low [] is chain = tt
FromBlock-joined unit from whole block low (bucket ∷ buckets) is chain =
    let start = from + (block + bucket.0) * unit in
    let least = chain.0 in
    let first = InBlock-raise unit (whole + (block + bucket.0)) start bucket.1 (start-block unit from whole block bucket.0 is) chain.2 in
    let here = FromBlock-in unit (whole + (block + bucket.0)) (whole + block + low) (raise start bucket.1) (omega arith) first in
    let later = FromBlock-joined unit from whole block (bucket.0 + 1) buckets is chain.4 in
    FromBlock-append unit (whole + block + low) (raise start bucket.1) (joined from block unit buckets) here
    (FromBlock-less unit (whole + block + (bucket.0 + 1)) (whole + block + low) (joined from block unit buckets) (omega arith) later)
