-- Groups of long keys: what the calls make of them.
use Rattle.std.proofs.Common.{◌≡◌, ◌≢◌, ℕ, true, false, cond, List, [], ◌∷◌, get_or, set, All, Some, bytes_eq, refl, sym, ap, ◌∙◌, subst}
use Rattle.std.specs.BTreeMap.{BTreeMap}
use Rattle.std.proofs.lemmas.List.{set-get_or}
use Rattle.std.proofs.lemmas.List.Elements.{All-head, All-tail, All-cons}
use Rattle.judy_model.specs.Keys.{word_order}
use Rattle.judy_model.specs.Arrays.{ArrayOf}
use Rattle.judy_records.specs.Texts.{bytes_in}
use Rattle.judy_records.specs.Spots.{Spot, free, held, RecordList, IsHeld, spot_at, value_of, text_of, with_value as with_record_value}
use Rattle.judy_hs.specs.Chains.{Pairs, value_in, with_value}
use Rattle.judy_hs.specs.LongGroups.{Long, long_with}
use Rattle.judy_hs.specs.LongRecords.{others_at, all_pairs, IsKeyOf, IsSpelled, AreLongRecords}
use Rattle.judy_hs.proofs.ChainLemmas.{bytes_itself, bytes_apart, value_in-here, value_in-later}
use Rattle.judy_hs.proofs.LongLemmas.{at-held, long_of, pairs-changed, spot-within, changed-kept, beside-kept, beside-changed}

module _ (hashes : ArrayOf word_order) (key_length : ℕ) (chains : BTreeMap ℕ Pairs) (records : RecordList) (are : AreLongRecords hashes.map key_length chains records)
    (place : ℕ) (is : IsHeld (spot_at records place)) where
  -- The key and the value of the record there.
  abbrev spelled : List ℕ
  spelled = bytes_in key_length (text_of (spot_at records place))

  abbrev value : ℕ
  value = value_of (spot_at records place)

  -- What a change of the group's chains is one of the group.
  alike : (one two : List Pairs) → one ≡ two → ◌≡◌ {A = Long} (record { key_length = key_length; hashes = hashes; chains = one }) (record { key_length = key_length; hashes = hashes; chains = two })
  alike one two same = ap (λ (all : List Pairs). record { key_length = key_length; hashes = hashes; chains = all }) same

  -- ---- a value found

  -- The key of the record has its value,
  pub own-value : (key : List ℕ) → spelled ≡ key → value_in (get_or (all_pairs key_length chains records) place []) key ≡ Some value
  own-value key own = ap (λ (pairs : Pairs). value_in pairs key) (at-held key_length chains records place is) ∙ value_in-here (spelled, value) (others_at chains place) key own

  -- and another one that which it has among the others.
  pub other-value : (key : List ℕ) → spelled ≢ key → value_in (get_or (all_pairs key_length chains records) place []) key ≡ value_in (others_at chains place) key
  other-value key other = ap (λ (pairs : Pairs). value_in pairs key) (at-held key_length chains records place is) ∙ value_in-later (spelled, value) (others_at chains place) key other

  -- ---- a value written

  -- In the record, where it has the key,
  module _ (key : List ℕ) (own : spelled ≡ key) (new : ℕ) where
    valued-spot : (spot : Spot) → IsHeld spot → IsSpelled key_length spot → IsSpelled key_length (held new (text_of spot))
    valued-spot (free next) stands good = absurd stands
    valued-spot (held old text) stands good = good

    pub value-kept : AreLongRecords hashes.map key_length chains (with_record_value records place new)
    value-kept =
        changed-kept hashes.map key_length chains records are place is chains (λ at apart. refl) (are.keys place) (held new (text_of (spot_at records place))) tt
        (valued-spot (spot_at records place) is (are.spelled place))

    pub value-written : long_of hashes key_length chains (with_record_value records place new) ≡ long_with (long_of hashes key_length chains records) place key new
    value-written = alike _ _
        (pairs-changed key_length chains chains records place (spot-within hashes.map key_length chains records are place is chains (λ at apart. refl) (are.keys place))
        (held new (text_of (spot_at records place))) (λ at apart. refl)
        ∙ ap (λ b. set (all_pairs key_length chains records) place (cond b ((spelled, new) ∷ others_at chains place) ((spelled, value) ∷ with_value (others_at chains place) key new)))
        (sym (ap (bytes_eq spelled) (sym own) ∙ bytes_itself spelled))
        ∙ ap (λ (pairs : Pairs). set (all_pairs key_length chains records) place (with_value pairs key new)) (sym (at-held key_length chains records place is)))

  -- and else beside it.
  module _ (key : List ℕ) (other : spelled ≢ key) (after : BTreeMap ℕ Pairs) (same : (at : ℕ) → at ≢ place → others_at after at ≡ others_at chains at) where
    keys-with : (new : ℕ) (pairs : Pairs) → All (λ pair. IsKeyOf key_length pair.0) pairs → All (λ pair. IsKeyOf key_length pair.0) (with_value pairs key new)
    keys-with new [] all = all
    keys-with new (pair ∷ rest) all = elim (bytes_eq pair.0 key) as (λ b. All (λ pair. IsKeyOf key_length pair.0) (cond b ((pair.0, new) ∷ rest) (pair ∷ with_value rest key new))) [
      | true ↦ All-cons (λ pair. IsKeyOf key_length pair.0) (pair.0, new) rest (All-head (λ pair. IsKeyOf key_length pair.0) pair rest all) (All-tail (λ pair. IsKeyOf key_length pair.0) pair rest all)
      | false ↦ All-cons (λ pair. IsKeyOf key_length pair.0) pair (with_value rest key new) (All-head (λ pair. IsKeyOf key_length pair.0) pair rest all)
          (keys-with new rest (All-tail (λ pair. IsKeyOf key_length pair.0) pair rest all))
    ]

    pub other-kept : (new : ℕ) → others_at after place ≡ with_value (others_at chains place) key new → AreLongRecords hashes.map key_length after records
    other-kept new written = beside-kept hashes.map key_length chains records are place is after same
        (subst (λ (pairs : Pairs). All (λ pair. IsKeyOf key_length pair.0) pairs) (sym written) (keys-with new (others_at chains place) (are.keys place)))

    pub other-written : (new : ℕ) → others_at after place ≡ with_value (others_at chains place) key new →
        long_of hashes key_length after records ≡ long_with (long_of hashes key_length chains records) place key new
    other-written new written = alike _ _
        (beside-changed hashes.map key_length chains records are place is after same (subst (λ (pairs : Pairs). All (λ pair. IsKeyOf key_length pair.0) pairs)
        (sym written) (keys-with new (others_at chains place) (are.keys place)))
        ∙ ap (λ (pairs : Pairs). set (all_pairs key_length chains records) place ((spelled, value) ∷ pairs)) written
        ∙ ap (λ b. set (all_pairs key_length chains records) place (cond b ((spelled, new) ∷ others_at chains place) ((spelled, value) ∷ with_value (others_at chains place) key new)))
        (sym (bytes_apart spelled key other))
        ∙ ap (λ (pairs : Pairs). set (all_pairs key_length chains records) place (with_value pairs key new)) (sym (at-held key_length chains records place is)))

  -- Nothing written there leaves the group as it was.
  pub beside-same : (after : BTreeMap ℕ Pairs) → ((at : ℕ) → others_at after at ≡ others_at chains at) →
      (long_of hashes key_length after records ≡ long_of hashes key_length chains records) × AreLongRecords hashes.map key_length after records
  beside-same after same =
      let keys = subst (λ (pairs : Pairs). All (λ pair. IsKeyOf key_length pair.0) pairs) (sym (same place)) (are.keys place) in (
        alike _ _
            (beside-changed hashes.map key_length chains records are place is after (λ at apart. same at) keys
            ∙ ap (λ (pairs : Pairs). set (all_pairs key_length chains records) place ((spelled, value) ∷ pairs)) (same place)
            ∙ ap (set (all_pairs key_length chains records) place) (sym (at-held key_length chains records place is))
            ∙ set-get_or (all_pairs key_length chains records) place []),
        beside-kept hashes.map key_length chains records are place is after (λ at apart. same at) keys,
      )
