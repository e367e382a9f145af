-- Groups of long keys: a record goes to another place.
use Rattle.std.proofs.Common.{◌≡◌, ◌≢◌, ℕ, zero, suc, inl, inr, List, [], ◌∷◌, length, get_or, set, Option, Some, None, option_map, Result, Ok, Err, OnOk, is_err, false, refl, sym, ap, ◌∙◌, subst}
use Rattle.std.specs.BTreeMap.{BTreeMap}
use Rattle.std.specs.FinMap.{FinMap, get, insert, nat_cmp-IsAntisymmetric}
use Rattle.std.specs.Cmp.{nat_cmp_total}
use Rattle.std.proofs.lemmas.Bool.{false≢true, cases_eq}
use Rattle.std.proofs.lemmas.Option.{same_Some}
use Rattle.judy_model.specs.Keys.{word_order}
use Rattle.judy_model.specs.Arrays.{ArrayOf, with_map}
use Rattle.judy_model.proofs.lemmas.maps.ChangesLemmas.{get-write_same, get-write_other}
use Rattle.judy_records.specs.Texts.{words_of, bytes_in}
use Rattle.judy_records.specs.Spots.{Spot, free, held, RecordList, IsHeld, IsNext, spot_at, value_of, text_of}
use Rattle.judy_records.specs.Memory.{HoldsSame}
use Rattle.judy_hs.specs.Chains.{Pairs}
use Rattle.judy_hs.specs.LongGroups.{put_at, chain_at}
use Rattle.judy_hs.specs.LongRecords.{others_at, pairs_of, IsSpelled, AreLongRecords}
use Rattle.judy_hs.specs.Relaid.{keys_of, IsRelaid}
use Rattle.judy_hs.proofs.LongLemmas.{key-back, spells-long, pairs-at, long_of}
use Rattle.judy_hs.proofs.LongPuts.{inner-kept, no-others}
use Rattle.judy_hs.proofs.TwoLevels.{get_or-put, get_or-put_other, get_or-set_there}

-- A record that spells a key is made again of its value and the bytes of the key,
pub made-again : (key_length : ℕ) (spot : Spot) → IsHeld spot → IsSpelled key_length spot → (value : ℕ) (bytes : List ℕ) → value ≡ value_of spot → bytes ≡ bytes_in key_length (text_of spot) →
    held value (words_of bytes) ≡ spot
made-again key_length (free next) is spelled value bytes one two = absurd is
made-again key_length (held old text) is spelled value bytes one two =
    (λ t. held (one t) (words_of (two t)))
    ∙ ap (λ (text : List ℕ). held old (words_of (bytes_in key_length text))) (sym spelled.2)
    ∙ ap (λ (key : List ℕ). held old (words_of key)) (key-back key_length spelled.0 spelled.1)
    ∙ ap (held old) spelled.2

-- which has that length.
pub again-long : (key_length : ℕ) (spot : Spot) → IsHeld spot → IsSpelled key_length spot → (bytes : List ℕ) → bytes ≡ bytes_in key_length (text_of spot) → length bytes ≡ key_length
again-long key_length spot is spelled bytes same = ap (λ (key : List ℕ). length key) same ∙ spells-long key_length spot is spelled

-- What holds of a result that is Ok holds where it is no error.
pub on-went : {A E : Type 0} {P : Type 0} (result : Result A E) → false ≡ is_err result → OnOk result P → P
on-went (Ok done) went holds = holds
on-went (Err error) went holds = absurd (false≢true went)

-- Nothing stands at a place that was freed, within the list or not.
freed-there : (spots : List Spot) (place : ℕ) → get_or (set spots place (free 0)) place (free 0) ≡ free 0
freed-there [] place = refl
freed-there (spot ∷ rest) zero = refl
freed-there (spot ∷ rest) (suc place) = freed-there rest place

module _ (hashes : ArrayOf word_order) (key_length : ℕ) (chains : BTreeMap ℕ Pairs) (records : RecordList) (are : AreLongRecords hashes.map key_length chains records)
    (known : IsNext records.spots records.next) (hash place : ℕ) (leads : get hashes.map hash ≡ Some place) (alone : others_at chains place ≡ []) where
  abbrev pub spot : Spot
  spot = spot_at records place

  is : IsHeld spot
  is = are.led hash place leads

  -- The list with the record at the next place and not at the old one.
  abbrev pub moved : RecordList
  moved = record records { spots = set (put_at records.spots records.next spot) place (free 0) }

  abbrev led_on : FinMap word_order ℕ
  led_on = insert hashes.map hash records.next

  -- ---- what stands where

  place-apart : records.next ≢ place
  place-apart same = known.is_free (subst (λ n. IsHeld (spot_at records n)) (sym same) is)

  here : spot_at moved records.next ≡ spot
  here =
      get_or-set_there (put_at records.spots records.next spot) place records.next (free 0) (free 0) place-apart
      ∙ get_or-put records.spots records.next spot (free 0) known.within

  there : (at : ℕ) → at ≢ records.next → at ≢ place → spot_at moved at ≡ spot_at records at
  there at apart other =
      get_or-set_there (put_at records.spots records.next spot) place at (free 0) (free 0) other
      ∙ get_or-put_other records.spots records.next at spot (free 0) known.within apart

  gone : spot_at moved place ≡ free 0
  gone = freed-there (put_at records.spots records.next spot) place

  held-here : IsHeld (spot_at moved records.next)
  held-here = subst IsHeld (sym here) is

  -- ---- where hashes lead

  led-here : get led_on hash ≡ Some records.next
  led-here = get-write_same nat_cmp_total hashes.map hash records.next

  led-there : (other : ℕ) → other ≢ hash → get led_on other ≡ get hashes.map other
  led-there other apart = get-write_other nat_cmp_total hashes.map hash nat_cmp-IsAntisymmetric records.next other (λ e. apart (sym e))

  is-next : (other at : ℕ) → other ≡ hash → get led_on other ≡ Some at → at ≡ records.next
  is-next other at same led = same_Some at records.next (sym led ∙ ap (get led_on) same ∙ led-here)

  not-next : (other at : ℕ) → get hashes.map other ≡ Some at → at ≢ records.next
  not-next other at led same = known.is_free (subst (λ n. IsHeld (spot_at records n)) same (are.led other at led))

  not-old : (other at : ℕ) → other ≢ hash → get hashes.map other ≡ Some at → at ≢ place
  not-old other at apart led same = apart (are.apart other hash place (led ∙ ap (λ (n : ℕ). Some n) same) leads)

  -- ---- what is kept

  moved-are : AreLongRecords led_on key_length chains moved
  moved-are = record {
    size = are.size;
    apart = λ one other at first second. elim (cases_eq one hash) [
      | inl this ↦ elim (cases_eq other hash) [
        | inl also ↦ this ∙ sym also
        | inr apart ↦ absurd (not-next other at (sym (led-there other apart) ∙ second) (is-next one at this first))
      ]
      | inr apart ↦ elim (cases_eq other hash) [
        | inl also ↦ absurd (not-next one at (sym (led-there one apart) ∙ first) (is-next other at also second))
        | inr both ↦ are.apart one other at (sym (led-there one apart) ∙ first) (sym (led-there other both) ∙ second)
      ]
    ];
    led = λ other at led. elim (cases_eq other hash) [
      | inl this ↦ subst (λ n. IsHeld (spot_at moved n)) (sym (is-next other at this led)) held-here
      | inr apart ↦
          let was = sym (led-there other apart) ∙ led in
          subst IsHeld (sym (there at (not-next other at was) (not-old other at apart was))) (are.led other at was)
    ];
    spelled = λ at. elim (cases_eq at records.next) [
      | inl this ↦ subst (λ n. IsSpelled key_length (spot_at moved n)) (sym this) (subst (IsSpelled key_length) (sym here) (are.spelled place))
      | inr apart ↦ elim (cases_eq at place) [
        | inl old ↦ subst (λ n. IsSpelled key_length (spot_at moved n)) (sym old) (subst (IsSpelled key_length) (sym gone) tt)
        | inr other ↦ subst (IsSpelled key_length) (sym (there at apart other)) (are.spelled at)
      ]
    ];
    beside = λ at some. elim (cases_eq at records.next) [
      | inl this ↦ subst (λ n. IsHeld (spot_at moved n)) (sym this) held-here
      | inr apart ↦ elim (cases_eq at place) [
        | inl old ↦ absurd (some (ap (others_at chains) old ∙ alone))
        | inr other ↦ subst IsHeld (sym (there at apart other)) (are.beside at some)
      ]
    ];
    keys = are.keys;
  }

  module _ (made : ArrayOf word_order) (after : RecordList) (put : made ≡ with_map hashes led_on) (size : after.size ≡ records.size) (spots : after.spots ≡ moved.spots) where
    pub moved-kept : AreLongRecords made.map key_length chains after
    moved-kept =
        subst (λ (array : ArrayOf word_order). AreLongRecords array.map key_length chains after) (sym put)
        (inner-kept led_on key_length chains moved after size spots moved-are)

    -- ---- what hashes lead to

    same-pairs : (at new : ℕ) → others_at chains new ≡ others_at chains at → spot_at moved new ≡ spot_at records at →
        chain_at (long_of made key_length chains after) new ≡ chain_at (long_of hashes key_length chains records) at
    same-pairs at new others stands =
        pairs-at key_length chains after new
        ∙ ap (λ (spots : List Spot). pairs_of key_length (others_at chains new) (get_or spots new (free 0))) spots
        ∙ (λ t. pairs_of key_length (others t) (stands t))
        ∙ sym (pairs-at key_length chains records at)

    same-led : (other : ℕ) (found : Option ℕ) → other ≢ hash → get hashes.map other ≡ found →
        option_map (chain_at (long_of made key_length chains after)) found ≡ option_map (chain_at (long_of hashes key_length chains records)) found
    same-led other None apart led = refl
    same-led other (Some at) apart led = ap (λ (pairs : Pairs). Some pairs) (same-pairs at at refl (there at (not-next other at led) (not-old other at apart led)))

    same-keys : (other : ℕ) → keys_of (long_of made key_length chains after) other ≡ keys_of (long_of hashes key_length chains records) other
    same-keys other =
        ap (λ (array : ArrayOf word_order). option_map (chain_at (long_of made key_length chains after)) (get array.map other)) put
        ∙ elim (cases_eq other hash) [
          | inl this ↦
              ap (λ (found : Option ℕ). option_map (chain_at (long_of made key_length chains after)) found) (ap (get led_on) this ∙ led-here)
              ∙ ap (λ (pairs : Pairs). Some pairs) (same-pairs place records.next (no-others hashes.map key_length chains records are known ∙ sym alone) here)
              ∙ ap (λ (found : Option ℕ). option_map (chain_at (long_of hashes key_length chains records)) found) (sym (ap (get hashes.map) this ∙ leads))
          | inr apart ↦
              ap (λ (found : Option ℕ). option_map (chain_at (long_of made key_length chains after)) found) (led-there other apart)
              ∙ same-led other (get hashes.map other) apart refl
        ]

    pub moved-relaid : IsRelaid (long_of hashes key_length chains records) (long_of made key_length chains after)
    moved-relaid = record { key_length = refl; apart = λ own. moved-kept.apart; keys = same-keys }

-- ---- a list that holds the same

module _ (hashes : ArrayOf word_order) (key_length : ℕ) (chains : BTreeMap ℕ Pairs) (records after : RecordList) (same : HoldsSame records after) where
  pub holds-kept : AreLongRecords hashes.map key_length chains records → AreLongRecords hashes.map key_length chains after
  holds-kept are = record {
    size = same.size ∙ are.size;
    apart = are.apart;
    led = λ hash place leads. subst IsHeld (sym (same.spots place)) (are.led hash place leads);
    spelled = λ place. subst (IsSpelled key_length) (sym (same.spots place)) (are.spelled place);
    beside = λ place some. subst IsHeld (sym (same.spots place)) (are.beside place some);
    keys = are.keys;
  }

  holds-pairs : (place : ℕ) → chain_at (long_of hashes key_length chains after) place ≡ chain_at (long_of hashes key_length chains records) place
  holds-pairs place =
      pairs-at key_length chains after place
      ∙ ap (pairs_of key_length (others_at chains place)) (same.spots place)
      ∙ sym (pairs-at key_length chains records place)

  pub holds-relaid : IsRelaid (long_of hashes key_length chains records) (long_of hashes key_length chains after)
  holds-relaid = record { key_length = refl; apart = λ own. own; keys = λ hash. holds-led (get hashes.map hash) }
    where
      holds-led : (found : Option ℕ) →
          option_map (chain_at (long_of hashes key_length chains after)) found ≡ option_map (chain_at (long_of hashes key_length chains records)) found
      holds-led None = refl
      holds-led (Some place) = ap (λ (pairs : Pairs). Some pairs) (holds-pairs place)
