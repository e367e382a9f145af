-- Groups of long keys: what stands at their places, and what a change at one place makes of them.
use Rattle.std.proofs.Common.{◌≡◌, ◌≢◌, ◌↔◌, ℕ, zero, suc, ◌+◌, ◌<◌, ◌≤◌, inl, inr, true, false, cond, nat_lt, nat_cmp, Option, unwrap_or, is_some, IsSome, List, [], ◌∷◌, ◌++◌}
use Rattle.std.proofs.Common.{length, get_or, set, All, refl, sym, ap, ◌∙◌, subst, arith}
use Rattle.std.specs.BTreeMap.{BTreeMap, btree_map_len, is_at}
use Rattle.std.specs.Map.{lookup}
use Rattle.std.specs.FinMap.{FinMap}
use Rattle.std.proofs.lemmas.List.{nil_from_length, ext_get_or, length-set, get_or_default, get_or-set_same, get_or-set_other, set-get_or}
use Rattle.std.proofs.lemmas.Bool.{false≢true, cases_eq, cases_lt, lt-ltb, le-ltb}
use Rattle.judy_model.specs.Keys.{word_order, IsByteString}
use Rattle.judy_model.specs.Arrays.{ArrayOf}
use Rattle.judy_records.specs.Texts.{words_of, bytes_in}
use Rattle.judy_records.specs.Spots.{Spot, free, held, RecordList, IsHeld, spot_at, value_of, text_of, with_spot}
use Rattle.judy_records.proofs.FreeLemmas.{held-inside}
use Rattle.judy_records.proofs.BackLemmas.{bytes-back}
use Rattle.judy_hs.specs.Chains.{Pairs, value_in}
use Rattle.judy_hs.specs.LongGroups.{Long, put_at}
use Rattle.judy_hs.specs.LongRecords.{others_at, pairs_of, pairs_from, all_pairs, IsKeyOf, IsSpelled, AreLongRecords}
use Rattle.judy_hs.proofs.ChainLemmas.{bytes_cases, value_in-later}

-- ---- keys in records

-- What a slice of bytes holds are bytes.
pub bytes_are : (bytes : List ℕ) → ((i : ℕ) → get_or bytes i 0 < 256) → IsByteString bytes
bytes_are bytes small = λ k d below. subst (λ byte. byte < 256) (get_or_default bytes k 0 d below) (small k)

-- The bytes of the words of a key are the key.
pub key-back : (key_length : ℕ) (key : List ℕ) → IsKeyOf key_length key → bytes_in key_length (words_of key) ≡ key
key-back key_length key is = ap (λ n. bytes_in n (words_of key)) (sym is.1) ∙ bytes-back key is.0

-- A record that spells a key has the words of exactly that one,
pub spells-key : (key_length : ℕ) (spot : Spot) → IsHeld spot → IsSpelled key_length spot → (key : List ℕ) → IsKeyOf key_length key →
    (text_of spot ≡ words_of key) ↔ (bytes_in key_length (text_of spot) ≡ key)
spells-key key_length (free next) is spelled key good = absurd is
spells-key key_length (held value text) is spelled key good = (
  λ same. ap (bytes_in key_length) same ∙ key-back key_length key good,
  λ same.
      let own : spelled.0 ≡ key = sym (key-back key_length spelled.0 spelled.1) ∙ ap (bytes_in key_length) spelled.2 ∙ same in
      sym spelled.2 ∙ ap words_of own,
)

-- which has that length.
pub spells-long : (key_length : ℕ) (spot : Spot) → IsHeld spot → IsSpelled key_length spot → length (bytes_in key_length (text_of spot)) ≡ key_length
spells-long key_length (free next) is spelled = absurd is
spells-long key_length (held value text) is spelled = ap (λ (bytes : List ℕ). length bytes) (ap (bytes_in key_length) (sym spelled.2) ∙ key-back key_length spelled.0 spelled.1) ∙ spelled.1.1

-- ---- what stands at a place

module _ (key_length : ℕ) (chains : BTreeMap ℕ Pairs) where
  length-from : (at : ℕ) (spots : List Spot) → length (pairs_from key_length chains at spots) ≡ length spots
  length-from at [] = refl
  length-from at (spot ∷ rest) = ap (λ n. suc n) (length-from (suc at) rest)

  get-from : (at : ℕ) (spots : List Spot) (place : ℕ) → get_or (pairs_from key_length chains at spots) place [] ≡ pairs_of key_length (others_at chains (at + place)) (get_or spots place (free 0))
  get-from at [] place = refl
  get-from at (spot ∷ rest) zero = (let e : at ≡ at + 0 = omega arith in ap (λ n. pairs_of key_length (others_at chains n) spot) e)
  get-from at (spot ∷ rest) (suc place) =
      let e : suc at + place ≡ at + suc place = omega arith in
      get-from (suc at) rest place ∙ ap (λ n. pairs_of key_length (others_at chains n) (get_or rest place (free 0))) e

  set-from : (at : ℕ) (spots : List Spot) (place : ℕ) (spot : Spot) → pairs_from key_length chains at (set spots place spot) ≡
      set (pairs_from key_length chains at spots) place (pairs_of key_length (others_at chains (at + place)) spot)
  set-from at [] place spot = refl
  set-from at (first ∷ rest) zero spot = (let e : at ≡ at + 0 = omega arith in ap (λ n. pairs_of key_length (others_at chains n) spot ∷ pairs_from key_length chains (suc at) rest) e)
  set-from at (first ∷ rest) (suc place) spot =
      let e : suc at + place ≡ at + suc place = omega arith in
      ap (λ (pairs : List Pairs). pairs_of key_length (others_at chains at) first ∷ pairs)
      (set-from (suc at) rest place spot ∙ ap (λ n. set (pairs_from key_length chains (suc at) rest) place (pairs_of key_length (others_at chains n) spot)) e)

  append-from : (at : ℕ) (spots : List Spot) (spot : Spot) → pairs_from key_length chains at (spots ++ spot ∷ []) ≡ pairs_from key_length chains at spots ++
      pairs_of key_length (others_at chains (at + length spots)) spot ∷ []
  append-from at [] spot = (let e : at ≡ at + 0 = omega arith in ap (λ n. pairs_of key_length (others_at chains n) spot ∷ []) e)
  append-from at (first ∷ rest) spot =
      let e : suc at + length rest ≡ at + suc (length rest) = omega arith in
      ap (λ (pairs : List Pairs). pairs_of key_length (others_at chains at) first ∷ pairs)
      (append-from (suc at) rest spot ∙ ap (λ n. pairs_from key_length chains (suc at) rest ++ pairs_of key_length (others_at chains n) spot ∷ []) e)

  module _ (records : RecordList) where
    pub length-pairs : length (all_pairs key_length chains records) ≡ length records.spots
    length-pairs = length-from 0 records.spots

    pub pairs-at : (place : ℕ) → get_or (all_pairs key_length chains records) place [] ≡ pairs_of key_length (others_at chains place) (spot_at records place)
    pairs-at place =
        let e : 0 + place ≡ place = omega arith in
        get-from 0 records.spots place ∙ ap (λ n. pairs_of key_length (others_at chains n) (spot_at records place)) e

-- What is put at a place within the list or at its end.
pub pairs-put : (key_length : ℕ) (chains : BTreeMap ℕ Pairs) (records : RecordList) (place : ℕ) (spot : Spot) → place ≤ length records.spots
    → pairs_from key_length chains 0 (put_at records.spots place spot) ≡ put_at (all_pairs key_length chains records) place (pairs_of key_length (others_at chains place) spot)
pairs-put key_length chains records place spot within = elim (cases_lt place (length records.spots)) [
  | inl inside ↦
      let e : nat_lt place (length records.spots) ≡ true = lt-ltb place (length records.spots) inside in
      let f : nat_lt place (length (all_pairs key_length chains records)) ≡ true = ap (nat_lt place) (length-pairs key_length chains records) ∙ e in
      ap (λ b. pairs_from key_length chains 0 (cond b (set records.spots place spot) (records.spots ++ spot ∷ []))) e
      ∙ set-from key_length chains 0 records.spots place spot
      ∙ ap (λ n. set (all_pairs key_length chains records) place (pairs_of key_length (others_at chains n) spot)) (let z : 0 + place ≡ place = omega arith in z)
      ∙ sym (ap (λ b. cond b (set (all_pairs key_length chains records) place (pairs_of key_length (others_at chains place) spot))
      (all_pairs key_length chains records ++ pairs_of key_length (others_at chains place) spot ∷ [])) f)
  | inr past ↦
      let e : nat_lt place (length records.spots) ≡ false = le-ltb place (length records.spots) past in
      let f : nat_lt place (length (all_pairs key_length chains records)) ≡ false = ap (nat_lt place) (length-pairs key_length chains records) ∙ e in
      let end : 0 + length records.spots ≡ place = omega (arith, within, past) in
      ap (λ b. pairs_from key_length chains 0 (cond b (set records.spots place spot) (records.spots ++ spot ∷ []))) e
      ∙ append-from key_length chains 0 records.spots spot
      ∙ ap (λ n. all_pairs key_length chains records ++ pairs_of key_length (others_at chains n) spot ∷ []) end
      ∙ sym (ap (λ b. cond b (set (all_pairs key_length chains records) place (pairs_of key_length (others_at chains place) spot))
      (all_pairs key_length chains records ++ pairs_of key_length (others_at chains place) spot ∷ [])) f)
]

-- Keys stand exactly where a record does,
used-held : (key_length : ℕ) (others : Pairs) (spot : Spot) → pairs_of key_length others spot ≢ [] → IsHeld spot
used-held key_length others (free next) used = absurd (used refl)
used-held key_length others (held value text) used = tt

held-used : (key_length : ℕ) (others : Pairs) (spot : Spot) → IsHeld spot → pairs_of key_length others spot ≢ []
held-used key_length others (free next) is = absurd is
held-used key_length others (held value text) is = λ e. cc

-- first its own.
pub held-pairs : (key_length : ℕ) (others : Pairs) (spot : Spot) → IsHeld spot → pairs_of key_length others spot ≡ (bytes_in key_length (text_of spot), value_of spot) ∷ others
held-pairs key_length others (free next) is = absurd is
held-pairs key_length others (held value text) is = refl

module _ (key_length : ℕ) (chains : BTreeMap ℕ Pairs) (records : RecordList) (place : ℕ) where
  pub used-is : get_or (all_pairs key_length chains records) place [] ≢ [] → IsHeld (spot_at records place)
  used-is used = used-held key_length (others_at chains place) (spot_at records place) (λ none. used (pairs-at key_length chains records place ∙ none))

  module _ (is : IsHeld (spot_at records place)) where
    pub is-used : get_or (all_pairs key_length chains records) place [] ≢ []
    is-used none = held-used key_length (others_at chains place) (spot_at records place) is (sym (pairs-at key_length chains records place) ∙ none)

    pub at-held : get_or (all_pairs key_length chains records) place [] ≡ (bytes_in key_length (text_of (spot_at records place)), value_of (spot_at records place)) ∷ others_at chains place
    at-held = pairs-at key_length chains records place ∙ held-pairs key_length (others_at chains place) (spot_at records place) is

-- ---- keys that share no hash

-- Where there is no chain nothing stands beside a record,
none-beside : (chains : BTreeMap ℕ Pairs) (place : ℕ) → btree_map_len chains ≡ 0 → others_at chains place ≡ []
none-beside chains place none = ap (λ (found : Option Pairs). unwrap_or found []) (ap (lookup (is_at (nat_cmp place))) (nil_from_length chains.entries none))

-- and a key that stands there is its own.
own-alone : (pair : List ℕ × ℕ) (others : Pairs) (key : List ℕ) → others ≡ [] → IsSome (value_in (pair ∷ others) key) → pair.0 ≡ key
own-alone pair others key none some = elim (bytes_cases pair.0 key) [
  | inl same ↦ same
  | inr differ ↦ absurd (false≢true (sym (ap is_some (value_in-later pair others key differ ∙ ap (λ (pairs : Pairs). value_in pairs key) none)) ∙ some))
]

pub own-only : (key_length : ℕ) (chains : BTreeMap ℕ Pairs) (place : ℕ) (spot : Spot) (key : List ℕ) → btree_map_len chains ≡ 0 → IsHeld spot →
    IsSome (value_in (pairs_of key_length (others_at chains place) spot) key) → bytes_in key_length (text_of spot) ≡ key
own-only key_length chains place (free next) key none is some = absurd is
own-only key_length chains place (held value text) key none is some = own-alone (bytes_in key_length text, value) (others_at chains place) key (none-beside chains place none) some

-- ---- the group

-- The group that its parts are.
abbrev pub long_of : ArrayOf word_order → ℕ → BTreeMap ℕ Pairs → RecordList → Long
long_of hashes key_length chains records = record { key_length = key_length; hashes = hashes; chains = all_pairs key_length chains records }

-- Where keys stand in a group, as it is seen, a record does.
pub seen-held : (key_length : ℕ) (chains : BTreeMap ℕ Pairs) (records : RecordList) (place : ℕ) {hashes : ArrayOf word_order} {long : Long}
    → long_of hashes key_length chains records ≡ long → get_or long.chains place [] ≢ [] → IsHeld (spot_at records place)
seen-held key_length chains records place seen used =
    used-is key_length chains records place (subst (λ (long : Long). get_or long.chains place [] ≢ []) (sym seen) used)

-- ---- a change at one place

module _ (key_length : ℕ) (chains after : BTreeMap ℕ Pairs) (records : RecordList) (place : ℕ) (within : place < length records.spots) (spot : Spot)
    (same : (at : ℕ) → at ≢ place → others_at after at ≡ others_at chains at) where
  pub spot-here : spot_at (with_spot records place spot) place ≡ spot
  spot-here = get_or-set_same records.spots place spot (free 0) within

  pub spot-there : (at : ℕ) → at ≢ place → spot_at (with_spot records place spot) at ≡ spot_at records at
  spot-there at apart = get_or-set_other records.spots place at spot (free 0) apart

  -- The keys of that place alone are others.
  pub pairs-changed : all_pairs key_length after (with_spot records place spot) ≡ set (all_pairs key_length chains records) place (pairs_of key_length (others_at after place) spot)
  pairs-changed =
      ext_get_or [] (all_pairs key_length after (with_spot records place spot)) (set (all_pairs key_length chains records) place new)
      (length-pairs key_length after (with_spot records place spot) ∙ length-set records.spots place spot ∙ sym long ∙ sym (length-set (all_pairs key_length chains records) place new))
      (λ at inside. each at)
    where
      new : Pairs
      new = pairs_of key_length (others_at after place) spot

      long : length (all_pairs key_length chains records) ≡ length records.spots
      long = length-pairs key_length chains records

      each : (at : ℕ) → get_or (all_pairs key_length after (with_spot records place spot)) at [] ≡ get_or (set (all_pairs key_length chains records) place new) at []
      each at = elim (cases_eq at place) [
        | inl here ↦
            pairs-at key_length after (with_spot records place spot) at
            ∙ ap (λ n. pairs_of key_length (others_at after n) (spot_at (with_spot records place spot) n)) here
            ∙ ap (pairs_of key_length (others_at after place)) spot-here
            ∙ sym (get_or-set_same (all_pairs key_length chains records) place new [] (omega (arith, within, long)))
            ∙ ap (λ n. get_or (set (all_pairs key_length chains records) place new) n []) (sym here)
        | inr apart ↦
            pairs-at key_length after (with_spot records place spot) at
            ∙ (λ t. pairs_of key_length (same at apart t) (spot-there at apart t))
            ∙ sym (pairs-at key_length chains records at)
            ∙ sym (get_or-set_other (all_pairs key_length chains records) place at new [] apart)
      ]

module _ (hashes : FinMap word_order ℕ) (key_length : ℕ) (chains : BTreeMap ℕ Pairs) (records : RecordList) (are : AreLongRecords hashes key_length chains records)
    (place : ℕ) (is : IsHeld (spot_at records place))
    (after : BTreeMap ℕ Pairs) (same : (at : ℕ) → at ≢ place → others_at after at ≡ others_at chains at) (keys : All (λ pair. IsKeyOf key_length pair.0) (others_at after place)) where
  pub spot-within : place < length records.spots
  spot-within = held-inside records.spots place is

  -- Another record stands there, or other keys beside it.
  module _ (spot : Spot) (stands : IsHeld spot) (spelled : IsSpelled key_length spot) where
    pub changed-kept : AreLongRecords hashes key_length after (with_spot records place spot)
    changed-kept = record {
      size = are.size;
      apart = are.apart;
      led = λ hash at leads. still-held at (are.led hash at leads);
      spelled = λ at. elim (cases_eq at place) [
        | inl here ↦ subst (λ n. IsSpelled key_length (spot_at (with_spot records place spot) n)) (sym here)
            (subst (IsSpelled key_length) (sym (spot-here key_length chains after records place spot-within spot same)) spelled)
        | inr apart ↦ subst (IsSpelled key_length) (sym (spot-there key_length chains after records place spot-within spot same at apart)) (are.spelled at)
      ];
      beside = λ at some. elim (cases_eq at place) [
        | inl here ↦ subst (λ n. IsHeld (spot_at (with_spot records place spot) n)) (sym here) (subst IsHeld (sym (spot-here key_length chains after records place spot-within spot same)) stands)
        | inr apart ↦ still-held at (are.beside at (λ none. some (same at apart ∙ none)))
      ];
      keys = λ at. elim (cases_eq at place) [
        | inl here ↦ subst (λ n. All (λ pair. IsKeyOf key_length pair.0) (others_at after n)) (sym here) keys
        | inr apart ↦ subst (λ (pairs : Pairs). All (λ pair. IsKeyOf key_length pair.0) pairs) (sym (same at apart)) (are.keys at)
      ];
    }
      where
        still-held : (at : ℕ) → IsHeld (spot_at records at) → IsHeld (spot_at (with_spot records place spot) at)
        still-held at was = elim (cases_eq at place) [
          | inl here ↦ subst (λ n. IsHeld (spot_at (with_spot records place spot) n)) (sym here) (subst IsHeld (sym (spot-here key_length chains after records place spot-within spot same)) stands)
          | inr apart ↦ subst IsHeld (sym (spot-there key_length chains after records place spot-within spot same at apart)) was
        ]

  -- The record there stays.
  own : with_spot records place (spot_at records place) ≡ records
  own = ap (λ (spots : List Spot). record records { spots = spots }) (set-get_or records.spots place (free 0))

  pub beside-kept : AreLongRecords hashes key_length after records
  beside-kept = subst (λ (now : RecordList). AreLongRecords hashes key_length after now) own (changed-kept (spot_at records place) is (are.spelled place))

  pub beside-changed : all_pairs key_length after records ≡ set (all_pairs key_length chains records) place
      ((bytes_in key_length (text_of (spot_at records place)), value_of (spot_at records place)) ∷ others_at after place)
  beside-changed =
      ap (all_pairs key_length after) (sym own)
      ∙ pairs-changed key_length chains after records place spot-within (spot_at records place) same
      ∙ ap (set (all_pairs key_length chains records) place) (held-pairs key_length (others_at after place) (spot_at records place) is)
