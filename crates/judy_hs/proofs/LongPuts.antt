-- Groups of long keys: a key put in at a place of its own.
use Rattle.std.proofs.Common.{◌≡◌, ◌≢◌, ℕ, zero, suc, inl, inr, List, [], ◌∷◌, length, All, Option, None, Some, refl}
use Rattle.std.proofs.Common.{sym, ap, ◌∙◌, subst, arith}
use Rattle.std.specs.BTreeMap.{BTreeMap}
use Rattle.std.specs.FinMap.{FinMap, get, get-empty, empty, insert, nat_cmp-IsAntisymmetric}
use Rattle.std.specs.Cmp.{nat_cmp_total}
use Rattle.std.proofs.lemmas.List.Elements.{All-nil}
use Rattle.std.proofs.lemmas.Bool.{cases_eq}
use Rattle.std.proofs.lemmas.Option.{none-some, same_Some}
use Rattle.judy_model.specs.Keys.{word_order, IsByteString}
use Rattle.judy_model.specs.Arrays.{ArrayOf, with_map}
use Rattle.judy_model.proofs.lemmas.maps.ChangesLemmas.{get-write_same, get-write_other}
use Rattle.judy_records.specs.Texts.{words_for, words_of}
use Rattle.judy_records.specs.Spots.{Spot, free, held, RecordList, IsHeld, IsNext, spot_at}
use Rattle.judy_hs.specs.Chains.{Pairs}
use Rattle.judy_hs.specs.LongGroups.{put_at, added_long, IsAdded, IsFound, IsFreePlace}
use Rattle.judy_hs.specs.LongRecords.{others_at, pairs_of, pairs_from, all_pairs, IsKeyOf, IsSpelled, AreLongRecords}
use Rattle.judy_hs.proofs.LongLemmas.{key-back, length-pairs, pairs-at, pairs-put, is-used, long_of}
use Rattle.judy_hs.proofs.TwoLevels.{get_or-put, get_or-put_other}

-- ---- a key put in at a place of its own

not-held : (key_length : ℕ) (others : Pairs) (spot : Spot) → (IsHeld spot → ⊥) → pairs_of key_length others spot ≡ []
not-held key_length others (free next) not = refl
not-held key_length others (held value text) not = absurd (not tt)

module _ (hashes : FinMap word_order ℕ) (key_length : ℕ) (chains : BTreeMap ℕ Pairs) (records : RecordList) (are : AreLongRecords hashes key_length chains records)
    (known : IsNext records.spots records.next) where
  pub no-others : others_at chains records.next ≡ []
  no-others = elim (others_at chains records.next) as (λ (pairs : Pairs). others_at chains records.next ≡ pairs → pairs ≡ []) [
    | [] ↦ λ e. refl
    | pair ∷ rest ↦ λ e. absurd (known.is_free (are.beside records.next (λ none. absurd (let f : ◌≡◌ {A = Pairs} (pair ∷ rest) [] = sym e ∙ none in cc))))
  ] refl

  pub next-IsFreePlace : IsFreePlace (all_pairs key_length chains records) records.next
  next-IsFreePlace = record {
    within = (let within = known.within in let long = length-pairs key_length chains records in omega (arith, within, long));
    no_key = pairs-at key_length chains records records.next ∙ not-held key_length (others_at chains records.next) (spot_at records records.next) known.is_free;
    last = λ end at inside.
        let long = length-pairs key_length chains records in
        is-used key_length chains records at (known.last (end ∙ long) at (omega (arith, inside, long)));
  }

  module _ (key : List ℕ) (good : IsKeyOf key_length key) where
    abbrev pub grown : RecordList
    grown = record records { spots = put_at records.spots records.next (held 0 (words_of key)) }

    grown-here : spot_at grown records.next ≡ held 0 (words_of key)
    grown-here = get_or-put records.spots records.next (held 0 (words_of key)) (free 0) known.within

    grown-there : (other : ℕ) → other ≢ records.next → spot_at grown other ≡ spot_at records other
    grown-there other apart = get_or-put_other records.spots records.next other (held 0 (words_of key)) (free 0) known.within apart

    pub put-pairs : all_pairs key_length chains grown ≡ put_at (all_pairs key_length chains records) records.next ((key, 0) ∷ [])
    put-pairs =
        pairs-put key_length chains records records.next (held 0 (words_of key)) known.within
        ∙ ap (put_at (all_pairs key_length chains records) records.next) (λ t. (key-back key_length key good t, 0) ∷ no-others t)

    pub grown-kept : (hash : ℕ) → get hashes hash ≡ None → AreLongRecords (insert hashes hash records.next) key_length chains grown
    grown-kept hash absent = record {
      size = are.size;
      apart = λ one other at first second. elim (cases_eq one hash) [
        | inl here ↦ elim (cases_eq other hash) [
          | inl also ↦ here ∙ sym also
          | inr apart ↦ absurd (not-led other at (was other at apart second) (led-here one at here first))
        ]
        | inr apart ↦ elim (cases_eq other hash) [
          | inl also ↦ absurd (not-led one at (was one at apart first) (led-here other at also second))
          | inr both ↦ are.apart one other at (was one at apart first) (was other at both second)
        ]
      ];
      led = λ other at leads. elim (cases_eq other hash) [
        | inl here ↦ subst (λ n. IsHeld (spot_at grown n)) (sym (led-here other at here leads)) (subst IsHeld (sym grown-here) tt)
        | inr apart ↦ (let before = was other at apart leads in subst IsHeld (sym (grown-there at (not-led other at before))) (are.led other at before))
      ];
      spelled = λ other. elim (cases_eq other records.next) [
        | inl here ↦ subst (λ n. IsSpelled key_length (spot_at grown n)) (sym here) (subst (IsSpelled key_length) (sym grown-here) (key, good, refl))
        | inr apart ↦ subst (IsSpelled key_length) (sym (grown-there other apart)) (are.spelled other)
      ];
      beside = λ other some. elim (cases_eq other records.next) [
        | inl here ↦ absurd (some (ap (others_at chains) here ∙ no-others))
        | inr apart ↦ subst IsHeld (sym (grown-there other apart)) (are.beside other some)
      ];
      keys = are.keys;
    }
      where
        was : (other at : ℕ) → other ≢ hash → get (insert hashes hash records.next) other ≡ Some at → get hashes other ≡ Some at
        was other at apart is = sym (get-write_other nat_cmp_total hashes hash nat_cmp-IsAntisymmetric records.next other (λ e. apart (sym e))) ∙ is

        led-here : (other at : ℕ) → other ≡ hash → get (insert hashes hash records.next) other ≡ Some at → at ≡ records.next
        led-here other at here is = same_Some at records.next (sym is ∙ ap (get (insert hashes hash records.next)) here ∙ get-write_same nat_cmp_total hashes hash records.next)

        not-led : (other at : ℕ) → get hashes other ≡ Some at → at ≢ records.next
        not-led other at is e = known.is_free (subst (λ n. IsHeld (spot_at records n)) e (are.led other at is))

-- A hash that led nowhere leads to a place of its own.
module _ (hashes made : ArrayOf word_order) (key_length : ℕ) (chains : BTreeMap ℕ Pairs) (records : RecordList) (are : AreLongRecords hashes.map key_length chains records)
    (known : IsNext records.spots records.next) (hash : ℕ) (key : List ℕ)
    (good : IsKeyOf key_length key) (absent : get hashes.map hash ≡ None) (is : made ≡ with_map hashes (insert hashes.map hash records.next)) where
  pub added-new : IsAdded (long_of hashes key_length chains records) (long_of made key_length chains (grown hashes.map key_length chains records are known key good)) hash key records.next
  added-new =
      subst (λ (found : Option ℕ). IsFound (long_of hashes key_length chains records) found records.next ×
      (long_of made key_length chains (grown hashes.map key_length chains records are known key good) ≡ added_long (long_of hashes key_length chains records) hash key found records.next))
      (sym absent) (
        next-IsFreePlace hashes.map key_length chains records are known,
        (λ t. record { key_length = key_length; hashes = is t; chains = put-pairs hashes.map key_length chains records are known key good t }),
      )

-- A group of one key.
module _ (chains : BTreeMap ℕ Pairs) (none : (place : ℕ) → others_at chains place ≡ []) (hash : ℕ) (key : List ℕ) (bytes : IsByteString key) (next : ℕ) (memory : List ℕ) where
  abbrev pub one_record : RecordList
  one_record = record { size = words_for (length key); spots = held 0 (words_of key) ∷ []; next = next; memory = memory }

  pub one-pairs : all_pairs (length key) chains one_record ≡ ((key, 0) ∷ []) ∷ []
  one-pairs = λ t. ((key-back (length key) key (bytes, refl) t, 0) ∷ none 0 t) ∷ []

  one-led : (other at : ℕ) → get (insert (empty {R = word_order}) hash 0) other ≡ Some at → (other ≡ hash) × (at ≡ 0)
  one-led other at leads = elim (cases_eq other hash) [
    | inl here ↦ (here, same_Some at 0 (sym leads ∙ ap (get (insert empty hash 0)) here ∙ get-write_same nat_cmp_total empty hash 0))
    | inr apart ↦ absurd (none-some at (sym (get-write_other nat_cmp_total empty hash nat_cmp-IsAntisymmetric 0 other (λ e. apart (sym e)) ∙ get-empty word_order other) ∙ leads))
  ]

  pub one-are : AreLongRecords (insert empty hash 0) (length key) chains one_record
  one-are = record {
    size = refl;
    apart = λ one other at first second. (one-led one at first).0 ∙ sym (one-led other at second).0;
    led = λ other at leads. subst (λ n. IsHeld (spot_at one_record n)) (sym (one-led other at leads).1) tt;
    spelled = spelled-one;
    beside = λ at some. absurd (some (none at));
    keys = λ at. subst (λ (pairs : Pairs). All (λ pair. IsKeyOf (length key) pair.0) pairs) (sym (none at)) (All-nil (λ pair. IsKeyOf (length key) pair.0));
  }
    where
      spelled-one : (place : ℕ) → IsSpelled (length key) (spot_at one_record place)
      spelled-one zero = (key, (bytes, refl), refl)
      spelled-one (suc place) = tt

-- ---- what a trial leaves

-- What is kept doesn't ask which place is next, nor for memory.
pub inner-kept : (hashes : FinMap word_order ℕ) (key_length : ℕ) (chains : BTreeMap ℕ Pairs) (records after : RecordList) → after.size ≡ records.size → after.spots ≡ records.spots →
    AreLongRecords hashes key_length chains records → AreLongRecords hashes key_length chains after
inner-kept hashes key_length chains records after size spots are =
    subst (AreLongRecords hashes key_length chains) (λ i. record { size = sym size i; spots = sym spots i; next = after.next; memory = after.memory })
    (record { size = are.size; apart = are.apart; led = are.led; spelled = are.spelled; beside = are.beside; keys = are.keys })

module _ (hashes made : ArrayOf word_order) (key_length : ℕ) (chains : BTreeMap ℕ Pairs) (records after : RecordList) (are : AreLongRecords hashes.map key_length chains records)
    (size : after.size ≡ records.size) where
  -- Where the key went in,
  module _ (known : IsNext records.spots records.next) (hash : ℕ) (key : List ℕ) (good : IsKeyOf key_length key) (absent : get hashes.map hash ≡ None)
      (place : ℕ) (next : place ≡ records.next) (is : made ≡ with_map hashes (insert hashes.map hash place))
      (put : after.spots ≡ put_at records.spots records.next (held 0 (words_of key))) where
    pub tried-kept : AreLongRecords made.map key_length chains after
    tried-kept =
        subst (λ (map : FinMap word_order ℕ). AreLongRecords map key_length chains after) (sym (ap (λ (array : ArrayOf word_order). array.map) is ∙ ap (insert hashes.map hash) next))
        (inner-kept (insert hashes.map hash records.next) key_length chains (grown hashes.map key_length chains records are known key good) after size put
        (grown-kept hashes.map key_length chains records are known key good hash absent))

    pub tried-added : IsAdded (long_of hashes key_length chains records) (long_of made key_length chains after) hash key place
    tried-added =
        subst (λ (all : List Pairs). IsAdded (long_of hashes key_length chains records) (record { key_length = key_length; hashes = made; chains = all }) hash key place) (ap
        (pairs_from key_length chains 0) (sym put))
        (subst (λ n. IsAdded (long_of hashes key_length chains records) (long_of made key_length chains (grown hashes.map key_length chains records are known key good)) hash key n) (sym next)
        (added-new hashes made key_length chains records are known hash key good absent (is ∙ ap (λ n. with_map hashes (insert hashes.map hash n)) next)))

  -- and where it was refused.
  module _ (same : after.spots ≡ records.spots) (undone : made ≡ hashes) where
    pub refused-kept : AreLongRecords made.map key_length chains after
    refused-kept =
        subst (λ (array : ArrayOf word_order). AreLongRecords array.map key_length chains after) (sym undone)
        (inner-kept hashes.map key_length chains records after size same are)

    pub refused-same : long_of made key_length chains after ≡ long_of hashes key_length chains records
    refused-same = λ t. record { key_length = key_length; hashes = undone t; chains = pairs_from key_length chains 0 (same t) }
