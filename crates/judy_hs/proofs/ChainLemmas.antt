-- Chains: what a look-up finds after a change.
use Rattle.std.proofs.Common.{◌≡◌, ◌≢◌, ℕ, Bool, true, false, cond, List, [], ◌∷◌, Option, Some, None, is_some, IsSome, Less, Equal, Greater, bytes_eq, refl, sym, ap, ◌∙◌, subst}
use Rattle.std.proofs.Common.{◌⊎◌, inl, inr, true≢false}
use Rattle.std.specs.Cmp.{tied_itself}
use Rattle.std.specs.Ordering.{match_ordering}
use Rattle.std.proofs.lemmas.Slice.Eq.{bytes_eq-Decides}
use Rattle.std.proofs.lemmas.Bool.{false_from_ne_true, false≢true}
use Rattle.judy_model.specs.Keys.{byte_order}
use Rattle.judy_model.proofs.lemmas.maps.TableLemmas.{byte_order_total, byte_order_same}
use Rattle.judy_hs.specs.Chains.{Pairs, has_key, value_in, AreApart, with_value, with_pair, joined, without}

-- ---- equality of bytes

pub bytes_same : (xs ys : List ℕ) → bytes_eq xs ys ≡ true → xs ≡ ys
bytes_same xs ys = (bytes_eq-Decides xs ys).0

pub bytes_itself : (xs : List ℕ) → bytes_eq xs xs ≡ true
bytes_itself xs = (bytes_eq-Decides xs xs).1 refl

pub bytes_apart : (xs ys : List ℕ) → xs ≢ ys → bytes_eq xs ys ≡ false
bytes_apart xs ys differ = false_from_ne_true (bytes_eq xs ys) (λ e. differ (bytes_same xs ys e))

bytes_differ : (xs ys : List ℕ) → bytes_eq xs ys ≡ false → xs ≢ ys
bytes_differ xs ys e same = true≢false (sym ((bytes_eq-Decides xs ys).1 same) ∙ e)

-- Bytes are the same or differ.
pub bytes_cases : (xs ys : List ℕ) → (xs ≡ ys) ⊎ (xs ≢ ys)
bytes_cases xs ys = elim (bytes_eq xs ys) as (λ b. bytes_eq xs ys ≡ b → (xs ≡ ys) ⊎ (xs ≢ ys)) [
  | true ↦ λ e. inl (bytes_same xs ys e)
  | false ↦ λ e. inr (bytes_differ xs ys e)
] refl

-- ---- one pair

pub value_in-head : (key : List ℕ) (value : ℕ) (rest : Pairs) → value_in ((key, value) ∷ rest) key ≡ Some value
value_in-head key value rest = ap (λ b. cond b (Some value) (value_in rest key)) (bytes_itself key)

pub value_in-later : (pair : List ℕ × ℕ) (rest : Pairs) (key : List ℕ) → pair.0 ≢ key → value_in (pair ∷ rest) key ≡ value_in rest key
value_in-later pair rest key differ = ap (λ b. cond b (Some pair.1) (value_in rest key)) (bytes_apart pair.0 key differ)

pub value_in-here : (pair : List ℕ × ℕ) (rest : Pairs) (key : List ℕ) → pair.0 ≡ key → value_in (pair ∷ rest) key ≡ Some pair.1
value_in-here pair rest key same = ap (λ b. cond b (Some pair.1) (value_in rest key)) (ap (λ k. bytes_eq k key) same ∙ bytes_itself key)

-- What doesn't hold at its head is as it is in the rest.
value_in-tail : (pair : List ℕ × ℕ) (one two : Pairs) (key : List ℕ) → value_in one key ≡ value_in two key → value_in (pair ∷ one) key ≡ value_in (pair ∷ two) key
value_in-tail pair one two key = ap (λ found. cond (has_key key pair) (Some pair.1) found)

-- A key with a value.
pub has_some : (found : Option ℕ) → IsSome found → (value : ℕ) × (found ≡ Some value)
has_some None is = absurd (false≢true is)
has_some (Some value) is = (value, refl)

pub some_is : (found : Option ℕ) (value : ℕ) → found ≡ Some value → IsSome found
some_is found value is = ap (λ (f : Option ℕ). is_some f) is

-- ---- the test of a pair

has-same : (pair : List ℕ × ℕ) (key : List ℕ) → pair.0 ≡ key → has_key key pair ≡ true
has-same pair key = (bytes_eq-Decides pair.0 key).1

chosen : (b : Bool) (one two : Pairs) → b ≡ true → cond b one two ≡ one
chosen b one two = ap (λ b. cond b one two)

passed : (b : Bool) (one two : Pairs) → b ≡ false → cond b one two ≡ two
passed b one two = ap (λ b. cond b one two)

-- ---- a value written

module _ (pair : List ℕ × ℕ) (rest : Pairs) (key : List ℕ) (value : ℕ) where
  written-here : pair.0 ≡ key → with_value (pair ∷ rest) key value ≡ (pair.0, value) ∷ rest
  written-here same = chosen (has_key key pair) ((pair.0, value) ∷ rest) (pair ∷ with_value rest key value) (has-same pair key same)

  written-later : pair.0 ≢ key → with_value (pair ∷ rest) key value ≡ pair ∷ with_value rest key value
  written-later differ = passed (has_key key pair) ((pair.0, value) ∷ rest) (pair ∷ with_value rest key value) (bytes_apart pair.0 key differ)

pub value_in-written : (pairs : Pairs) (key : List ℕ) (value : ℕ) → IsSome (value_in pairs key) → value_in (with_value pairs key value) key ≡ Some value
value_in-written [] key value is = absurd (false≢true is)
value_in-written (pair ∷ rest) key value is = elim (bytes_cases pair.0 key) [
  | inl same ↦ ap (λ (pairs : Pairs). value_in pairs key) (written-here pair rest key value same) ∙ value_in-here (pair.0, value) rest key same
  | inr differ ↦ ap (λ (pairs : Pairs). value_in pairs key) (written-later pair rest key value differ) ∙ value_in-later pair (with_value rest key value) key differ
      ∙ value_in-written rest key value (subst IsSome (value_in-later pair rest key differ) is)
]

pub value_in-written_other : (pairs : Pairs) (key : List ℕ) (value : ℕ) (other : List ℕ) → key ≢ other → value_in (with_value pairs key value) other ≡ value_in pairs other
value_in-written_other [] key value other differ = refl
value_in-written_other (pair ∷ rest) key value other differ = elim (bytes_cases pair.0 key) [
  | inl same ↦ let apart : pair.0 ≢ other = λ e. differ (sym same ∙ e) in
      ap (λ (pairs : Pairs). value_in pairs other) (written-here pair rest key value same) ∙ value_in-later (pair.0, value) rest other apart ∙ sym (value_in-later pair rest other apart)
  | inr apart ↦ ap (λ (pairs : Pairs). value_in pairs other) (written-later pair rest key value apart) ∙
      value_in-tail pair (with_value rest key value) rest other (value_in-written_other rest key value other differ)
]

-- ---- a key put in

-- A key that is above another isn't the other.
above-apart : (key other : List ℕ) → byte_order key other ≡ Greater → other ≢ key
above-apart key other above same = absurd (let f : Greater ≡ Equal = sym above ∙ ap (byte_order key) same ∙ tied_itself byte_order_total key in cc)

pub value_in-put : (pairs : Pairs) (key : List ℕ) (value : ℕ) → value_in (with_pair pairs key value) key ≡ Some value
value_in-put [] key value = value_in-head key value []
value_in-put (pair ∷ rest) key value =
    elim (byte_order key pair.0) as (λ r. byte_order key pair.0 ≡ r → value_in (match_ordering r ((key, value) ∷ pair ∷ rest) ((pair.0, value) ∷ rest) (pair ∷ with_pair rest key value))
    key ≡ Some value) [
      | Less ↦ λ e. value_in-head key value (pair ∷ rest)
      | Equal ↦ λ e. value_in-here (pair.0, value) rest key (sym (byte_order_same key pair.0 e))
      | Greater ↦ λ e. value_in-later pair (with_pair rest key value) key (above-apart key pair.0 e) ∙ value_in-put rest key value
    ] refl

pub value_in-put_other : (pairs : Pairs) (key : List ℕ) (value : ℕ) (other : List ℕ) → key ≢ other → value_in (with_pair pairs key value) other ≡ value_in pairs other
value_in-put_other [] key value other differ = value_in-later (key, value) [] other differ
value_in-put_other (pair ∷ rest) key value other differ =
    elim (byte_order key pair.0) as (λ r. byte_order key pair.0 ≡ r → value_in (match_ordering r ((key, value) ∷ pair ∷ rest) ((pair.0, value) ∷ rest) (pair ∷ with_pair rest key value))
    other ≡ value_in (pair ∷ rest) other) [
      | Less ↦ λ e. value_in-later (key, value) (pair ∷ rest) other differ
      | Equal ↦ λ e.
          let apart : pair.0 ≢ other = λ same. differ (byte_order_same key pair.0 e ∙ same) in
          value_in-later (pair.0, value) rest other apart ∙ sym (value_in-later pair rest other apart)
      | Greater ↦ λ e. value_in-tail pair (with_pair rest key value) rest other (value_in-put_other rest key value other differ)
    ] refl

-- Behind the first one.
absent-first : (pair : List ℕ × ℕ) (rest : Pairs) (key : List ℕ) → value_in (pair ∷ rest) key ≡ None → pair.0 ≢ key
absent-first pair rest key absent same = absurd (let f : Some pair.1 ≡ None = sym (value_in-here pair rest key same) ∙ absent in cc)

pub value_in-joined : (pairs : Pairs) (key : List ℕ) (value : ℕ) → value_in pairs key ≡ None → value_in (joined pairs key value) key ≡ Some value
value_in-joined [] key value absent = value_in-head key value []
value_in-joined (pair ∷ rest) key value absent = value_in-later pair (with_pair rest key value) key (absent-first pair rest key absent) ∙ value_in-put rest key value

pub value_in-joined_other : (pairs : Pairs) (key : List ℕ) (value : ℕ) (other : List ℕ) → key ≢ other → value_in (joined pairs key value) other ≡ value_in pairs other
value_in-joined_other [] key value other differ = value_in-later (key, value) [] other differ
value_in-joined_other (pair ∷ rest) key value other differ = value_in-tail pair (with_pair rest key value) rest other (value_in-put_other rest key value other differ)

-- ---- a key taken out

module _ (pair : List ℕ × ℕ) (rest : Pairs) (key : List ℕ) where
  without-here : pair.0 ≡ key → without (pair ∷ rest) key ≡ rest
  without-here same = chosen (has_key key pair) rest (pair ∷ without rest key) (has-same pair key same)

  without-later : pair.0 ≢ key → without (pair ∷ rest) key ≡ pair ∷ without rest key
  without-later differ = passed (has_key key pair) rest (pair ∷ without rest key) (bytes_apart pair.0 key differ)

pub value_in-without : (pairs : Pairs) (key : List ℕ) → AreApart pairs → value_in (without pairs key) key ≡ None
value_in-without [] key apart = refl
value_in-without (pair ∷ rest) key apart = elim (bytes_cases pair.0 key) [
  | inl same ↦ ap (λ (pairs : Pairs). value_in pairs key) (without-here pair rest key same) ∙ ap (value_in rest) (sym same) ∙ apart.0
  | inr differ ↦ ap (λ (pairs : Pairs). value_in pairs key) (without-later pair rest key differ) ∙ value_in-later pair (without rest key) key differ ∙ value_in-without rest key apart.1
]

pub value_in-without_other : (pairs : Pairs) (key other : List ℕ) → key ≢ other → value_in (without pairs key) other ≡ value_in pairs other
value_in-without_other [] key other differ = refl
value_in-without_other (pair ∷ rest) key other differ = elim (bytes_cases pair.0 key) [
  | inl same ↦ ap (λ (pairs : Pairs). value_in pairs other) (without-here pair rest key same) ∙ sym (value_in-later pair rest other (λ e. differ (sym same ∙ e)))
  | inr apart ↦ ap (λ (pairs : Pairs). value_in pairs other) (without-later pair rest key apart) ∙ value_in-tail pair (without rest key) rest other (value_in-without_other rest key other differ)
]

-- ---- keys stay apart

module _ (key : List ℕ) where
  pub AreApart-written : (pairs : Pairs) (value : ℕ) → AreApart pairs → AreApart (with_value pairs key value)
  AreApart-written [] value apart = tt
  AreApart-written (pair ∷ rest) value apart = elim (bytes_cases pair.0 key) [
    | inl same ↦ subst AreApart (sym (written-here pair rest key value same)) apart
    | inr differ ↦ subst AreApart (sym (written-later pair rest key value differ)) (value_in-written_other rest key value pair.0 (λ e. differ (sym e)) ∙ apart.0, AreApart-written rest value apart.1)
  ]

  pub AreApart-put : (pairs : Pairs) (value : ℕ) → value_in pairs key ≡ None → AreApart pairs → AreApart (with_pair pairs key value)
  AreApart-put [] value absent apart = (refl, tt)
  AreApart-put (pair ∷ rest) value absent apart =
      elim (byte_order key pair.0) as (λ r. byte_order key pair.0 ≡ r → AreApart (match_ordering r ((key, value) ∷ pair ∷ rest) ((pair.0, value) ∷ rest) (pair ∷ with_pair rest key value))) [
        | Less ↦ λ e. (absent, apart)
        | Equal ↦ λ e. absurd (let f : Some pair.1 ≡ None = sym (value_in-here pair rest key (sym (byte_order_same key pair.0 e))) ∙ absent in cc)
        | Greater ↦ λ e.
            let differ = above-apart key pair.0 e in
            (value_in-put_other rest key value pair.0 (λ same. differ (sym same)) ∙ apart.0, AreApart-put rest value (sym (value_in-later pair rest key differ) ∙ absent) apart.1)
      ] refl

  pub AreApart-joined : (pairs : Pairs) (value : ℕ) → value_in pairs key ≡ None → AreApart pairs → AreApart (joined pairs key value)
  AreApart-joined [] value absent apart = (refl, tt)
  AreApart-joined (pair ∷ rest) value absent apart =
      let differ = absent-first pair rest key absent in
      (value_in-put_other rest key value pair.0 (λ same. differ (sym same)) ∙ apart.0, AreApart-put rest value (sym (value_in-later pair rest key differ) ∙ absent) apart.1)

  pub AreApart-without : (pairs : Pairs) → AreApart pairs → AreApart (without pairs key)
  AreApart-without [] apart = tt
  AreApart-without (pair ∷ rest) apart = elim (bytes_cases pair.0 key) [
    | inl same ↦ subst AreApart (sym (without-here pair rest key same)) apart.1
    | inr differ ↦ subst AreApart (sym (without-later pair rest key differ)) (value_in-without_other rest key pair.0 (λ e. differ (sym e)) ∙ apart.0, AreApart-without rest apart.1)
  ]

-- ---- chains that have keys

-- A chain that isn't empty has a key with a value.
pub some_pair : (pairs : Pairs) → pairs ≢ [] → (key : List ℕ) × (value : ℕ) × (value_in pairs key ≡ Some value)
some_pair [] used = absurd (used refl)
some_pair (pair ∷ rest) used = (pair.0, pair.1, value_in-here pair rest pair.0 refl)

-- A chain with a value for a key has one.
pub some_used : (pairs : Pairs) (key : List ℕ) → IsSome (value_in pairs key) → pairs ≢ []
some_used pairs key is gone = false≢true (subst (λ (pairs : Pairs). IsSome (value_in pairs key)) gone is)
