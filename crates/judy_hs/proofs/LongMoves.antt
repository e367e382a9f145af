-- Groups of long keys: keys that come and go.
use Rattle.std.proofs.Common.{◌≡◌, ◌≢◌, ℕ, ◌<◌, inl, inr, true, false, cond, List, [], ◌∷◌, length, set, All, Option, Some, bytes_eq, refl, sym, ap, ◌∙◌, subst}
use Rattle.std.specs.BTreeMap.{BTreeMap}
use Rattle.std.specs.FinMap.{get, remove, nat_cmp-IsAntisymmetric}
use Rattle.std.specs.Cmp.{nat_cmp_total}
use Rattle.std.specs.Ordering.{match_ordering}
use Rattle.std.proofs.Common.{Less, Equal, Greater}
use Rattle.std.proofs.lemmas.List.Elements.{All-head, All-tail, All-cons, All-nil}
use Rattle.std.proofs.lemmas.Bool.{cases_eq}
use Rattle.std.proofs.lemmas.Option.{none-some}
use Rattle.judy_model.specs.Keys.{word_order, byte_order}
use Rattle.judy_model.specs.Arrays.{ArrayOf, with_map}
use Rattle.judy_model.proofs.lemmas.maps.ChangesLemmas.{get-del_same, get-del_other}
use Rattle.judy_records.specs.Texts.{words_of, bytes_in}
use Rattle.judy_records.specs.Spots.{free, held, RecordList, IsHeld, spot_at, value_of, text_of, with_spot}
use Rattle.judy_hs.specs.Chains.{Pairs, with_pair, joined, without}
use Rattle.judy_hs.specs.LongGroups.{Long, added_long, IsAdded, IsFound, hashes_without, without_key}
use Rattle.judy_hs.specs.LongRecords.{others_at, all_pairs, IsKeyOf, IsSpelled, AreLongRecords}
use Rattle.judy_hs.proofs.ChainLemmas.{bytes_itself, bytes_apart}
use Rattle.judy_hs.proofs.LongLemmas.{key-back, at-held, long_of, spot-here, spot-there, pairs-changed, spot-within, changed-kept, beside-kept, beside-changed}

-- A list without the record at a place.
abbrev pub taken_out : RecordList → ℕ → RecordList
taken_out records place = with_spot records place (free 0)

-- ---- the length of keys beside others

module _ (key_length : ℕ) where
  keys-without : (key : List ℕ) (pairs : Pairs) → All (λ pair. IsKeyOf key_length pair.0) pairs → All (λ pair. IsKeyOf key_length pair.0) (without pairs key)
  keys-without key [] all = all
  keys-without key (pair ∷ rest) all = elim (bytes_eq pair.0 key) as (λ b. All (λ pair. IsKeyOf key_length pair.0) (cond b rest (pair ∷ without rest key))) [
    | true ↦ All-tail (λ pair. IsKeyOf key_length pair.0) pair rest all
    | false ↦ All-cons (λ pair. IsKeyOf key_length pair.0) pair (without rest key) (All-head (λ pair. IsKeyOf key_length pair.0) pair rest all)
        (keys-without key rest (All-tail (λ pair. IsKeyOf key_length pair.0) pair rest all))
  ]

  keys-put : (key : List ℕ) → IsKeyOf key_length key → (value : ℕ) (pairs : Pairs) → All (λ pair. IsKeyOf key_length pair.0) pairs → All (λ pair. IsKeyOf key_length pair.0) (with_pair pairs key value)
  keys-put key good value [] all = All-cons (λ pair. IsKeyOf key_length pair.0) (key, value) [] good all
  keys-put key good value (pair ∷ rest) all =
      let here = All-head (λ pair. IsKeyOf key_length pair.0) pair rest all in
      let later = All-tail (λ pair. IsKeyOf key_length pair.0) pair rest all in
      elim (byte_order key pair.0) as (λ answer. All (λ pair. IsKeyOf key_length pair.0) (match_ordering answer ((key, value) ∷ pair ∷ rest) ((pair.0, value) ∷ rest)
      (pair ∷ with_pair rest key value))) [
        | Less ↦ All-cons (λ pair. IsKeyOf key_length pair.0) (key, value) (pair ∷ rest) good all
        | Equal ↦ All-cons (λ pair. IsKeyOf key_length pair.0) (pair.0, value) rest here later
        | Greater ↦ All-cons (λ pair. IsKeyOf key_length pair.0) pair (with_pair rest key value) here (keys-put key good value rest later)
      ]

module _ (hashes : ArrayOf word_order) (key_length : ℕ) (chains : BTreeMap ℕ Pairs) (records : RecordList) (are : AreLongRecords hashes.map key_length chains records)
    (hash place : ℕ) (leads : get hashes.map hash ≡ Some place) (key : List ℕ)
    (after : BTreeMap ℕ Pairs) (same : (at : ℕ) → at ≢ place → others_at after at ≡ others_at chains at) where
  is : IsHeld (spot_at records place)
  is = are.led hash place leads

  abbrev spelled : List ℕ
  spelled = bytes_in key_length (text_of (spot_at records place))

  abbrev value : ℕ
  value = value_of (spot_at records place)

  abbrev before : List Pairs
  before = all_pairs key_length chains records

  -- The group with these pairs left at the place.
  abbrev gone-to : Pairs → Long
  gone-to left = record { key_length = key_length; hashes = hashes_without (long_of hashes key_length chains records) hash left; chains = set before place left }

  -- ---- a key put in beside others

  module _ (good : IsKeyOf key_length key) (put : others_at after place ≡ with_pair (others_at chains place) key 0) where
    keys-joined : All (λ pair. IsKeyOf key_length pair.0) (others_at after place)
    keys-joined = subst (λ (pairs : Pairs). All (λ pair. IsKeyOf key_length pair.0) pairs) (sym put) (keys-put key_length key good 0 (others_at chains place) (are.keys place))

    pub joined-kept : AreLongRecords hashes.map key_length after records
    joined-kept = beside-kept hashes.map key_length chains records are place is after same keys-joined

    pub added-held : IsAdded (long_of hashes key_length chains records) (long_of hashes key_length after records) hash key place
    added-held =
        subst (λ (found : Option ℕ). IsFound (long_of hashes key_length chains records) found place ×
        (long_of hashes key_length after records ≡ added_long (long_of hashes key_length chains records) hash key found place)) (sym leads) (
          refl,
          ap (λ (all : List Pairs). record { key_length = key_length; hashes = hashes; chains = all })
              (beside-changed hashes.map key_length chains records are place is after same keys-joined
              ∙ ap (λ (pairs : Pairs). set before place ((spelled, value) ∷ pairs)) put
              ∙ ap (λ (pairs : Pairs). set before place (joined pairs key 0)) (sym (at-held key_length chains records place is))),
        )

  -- ---- a key taken out of the others

  module _ (other : spelled ≢ key) (left : others_at after place ≡ without (others_at chains place) key) where
    keys-left : All (λ pair. IsKeyOf key_length pair.0) (others_at after place)
    keys-left = subst (λ (pairs : Pairs). All (λ pair. IsKeyOf key_length pair.0) pairs) (sym left) (keys-without key_length key (others_at chains place) (are.keys place))

    pub left-kept : AreLongRecords hashes.map key_length after records
    left-kept = beside-kept hashes.map key_length chains records are place is after same keys-left

    pub left-others : long_of hashes key_length after records ≡ without_key (long_of hashes key_length chains records) hash place key
    left-others =
        ap (λ (all : List Pairs). record { key_length = key_length; hashes = hashes; chains = all })
        (beside-changed hashes.map key_length chains records are place is after same keys-left
        ∙ ap (λ (pairs : Pairs). set before place ((spelled, value) ∷ pairs)) left)
        ∙ ap (λ b. gone-to (cond b (others_at chains place) ((spelled, value) ∷ without (others_at chains place) key))) (sym (bytes_apart spelled key other))
        ∙ ap (λ (pairs : Pairs). gone-to (without pairs key)) (sym (at-held key_length chains records place is))

  -- ---- the key of the record taken out

  module _ (own : spelled ≡ key) where
    gone : gone-to (others_at chains place) ≡ without_key (long_of hashes key_length chains records) hash place key
    gone =
        ap (λ b. gone-to (cond b (others_at chains place) ((spelled, value) ∷ without (others_at chains place) key))) (sym (ap (bytes_eq spelled) (sym own) ∙ bytes_itself spelled))
        ∙ ap (λ (pairs : Pairs). gone-to (without pairs key)) (sym (at-held key_length chains records place is))

    -- Another one takes its place,
    module _ (first : List ℕ) (held_value : ℕ) (took : others_at chains place ≡ (first, held_value) ∷ others_at after place) where
      all-first : All (λ pair. IsKeyOf key_length pair.0) ((first, held_value) ∷ others_at after place)
      all-first = subst (λ (pairs : Pairs). All (λ pair. IsKeyOf key_length pair.0) pairs) took (are.keys place)

      pub first-good : IsKeyOf key_length first
      first-good = All-head (λ pair. IsKeyOf key_length pair.0) (first, held_value) (others_at after place) all-first

      keys-first : All (λ pair. IsKeyOf key_length pair.0) (others_at after place)
      keys-first = All-tail (λ pair. IsKeyOf key_length pair.0) (first, held_value) (others_at after place) all-first

      pub moved-kept : AreLongRecords hashes.map key_length after (with_spot records place (held held_value (words_of first)))
      moved-kept = changed-kept hashes.map key_length chains records are place is after same keys-first (held held_value (words_of first)) tt (first, first-good, refl)

      pub moved-in : long_of hashes key_length after (with_spot records place (held held_value (words_of first))) ≡ without_key (long_of hashes key_length chains records) hash place key
      moved-in =
          ap (λ (all : List Pairs). record { key_length = key_length; hashes = hashes; chains = all })
          (pairs-changed key_length chains after records place (spot-within hashes.map key_length chains records are place is after same keys-first) (held held_value (words_of first)) same
          ∙ ap (λ (bytes : List ℕ). set before place ((bytes, held_value) ∷ others_at after place)) (key-back key_length first first-good))
          ∙ ap gone-to (sym took)
          ∙ gone

    -- or there is none, and the place is free.
    module _ (alone : others_at chains place ≡ []) (none : others_at after place ≡ []) where
      keys-none : All (λ pair. IsKeyOf key_length pair.0) (others_at after place)
      keys-none = subst (λ (pairs : Pairs). All (λ pair. IsKeyOf key_length pair.0) pairs) (sym none) (All-nil (λ pair. IsKeyOf key_length pair.0))

      within : place < length records.spots
      within = spot-within hashes.map key_length chains records are place is after same keys-none

      pub freed : long_of (with_map hashes (remove hashes.map hash)) key_length after (taken_out records place) ≡ without_key (long_of hashes key_length chains records) hash place key
      freed =
          ap (λ (all : List Pairs). record { key_length = key_length; hashes = with_map hashes (remove hashes.map hash); chains = all })
          (pairs-changed key_length chains after records place within (free 0) same)
          ∙ ap gone-to (sym alone)
          ∙ gone

      still-led : (other at : ℕ) → get (remove hashes.map hash) other ≡ Some at → (other ≢ hash) × (get hashes.map other ≡ Some at)
      still-led other at leads = elim (cases_eq other hash) [
        | inl here ↦ absurd (none-some at (sym (get-del_same nat_cmp_total hashes.map hash) ∙ ap (get (remove hashes.map hash)) (sym here) ∙ leads))
        | inr apart ↦ (apart, sym (get-del_other nat_cmp_total hashes.map hash nat_cmp-IsAntisymmetric other (λ e. apart (sym e))) ∙ leads)
      ]

      still-held : (at : ℕ) → at ≢ place → IsHeld (spot_at records at) → IsHeld (spot_at (taken_out records place) at)
      still-held at apart was = subst IsHeld (sym (spot-there key_length chains after records place within (free 0) same at apart)) was

      pub freed-kept : AreLongRecords (remove hashes.map hash) key_length after (taken_out records place)
      freed-kept = record {
        size = are.size;
        apart = λ one other at first second. are.apart one other at (still-led one at first).1 (still-led other at second).1;
        led = λ other at leads'.
            let was = still-led other at leads' in
            still-held at (λ e. was.0 (are.apart other hash place (was.1 ∙ ap (λ (n : ℕ). Some n) e) leads)) (are.led other at was.1);
        spelled = λ at. elim (cases_eq at place) [
          | inl here ↦ subst (λ n. IsSpelled key_length (spot_at (taken_out records place) n)) (sym here)
              (subst (IsSpelled key_length) (sym (spot-here key_length chains after records place within (free 0) same)) tt)
          | inr apart ↦ subst (IsSpelled key_length) (sym (spot-there key_length chains after records place within (free 0) same at apart)) (are.spelled at)
        ];
        beside = λ at some. elim (cases_eq at place) [
          | inl here ↦ absurd (some (ap (others_at after) here ∙ none))
          | inr apart ↦ still-held at apart (are.beside at (λ empty. some (same at apart ∙ empty)))
        ];
        keys = λ at. elim (cases_eq at place) [
          | inl here ↦ subst (λ n. All (λ pair. IsKeyOf key_length pair.0) (others_at after n)) (sym here) keys-none
          | inr apart ↦ subst (λ (pairs : Pairs). All (λ pair. IsKeyOf key_length pair.0) pairs) (sym (same at apart)) (are.keys at)
        ];
      }
