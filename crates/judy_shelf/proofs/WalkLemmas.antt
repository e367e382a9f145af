-- The entries of a map of strings, one after another by `first` and `next`, and lists whose items are written in turn.
use Rattle.std.proofs.Common.{◌≡◌, ℕ, zero, suc, ◌-◌, ◌<◌, ◌≤◌, List, [], ◌∷◌, ◌++◌, length, take, drop, filter, slice_get, Option, Some, None, option_map, unwrap_or, refl, sym, ap}
use Rattle.std.proofs.Common.{Result, Ok, Err, subst, ◌∙◌, append_assoc, append-nil, arith}
use Rattle.std.specs.List.{flat_map}
use Rattle.std.specs.Cmp.{IsTotalOrder, tied_itself}
use Rattle.std.specs.Cmp.Lexicographic.{nat_list_cmp_total}
use Rattle.std.specs.declared.cmp.Ordering.{Ordering}
use Rattle.std.specs.Ordering.{is_lt}
use Rattle.std.specs.FinMap.{FinMap, keys, entries, entries_sorted, get, get-entries}
use Rattle.std.proofs.lemmas.List.{take_at, take-append-drop, length-take-le}
use Rattle.std.proofs.lemmas.Grind.{flat_map-append}
use Rattle.std.proofs.lemmas.Option.{slice_get-map, slice_get_within, get_or_from_slice_get}
use Rattle.judy_model.specs.Keys.{byte_order}
use Rattle.judy_model.specs.Neighbours.{first, next}
use Rattle.judy_model.specs.Counts.{rank}
use Rattle.judy_model.proofs.lemmas.queries.RankLemmas.{first-slice_get, next-slice_get, count_up_to_at, rank_at}
use Rattle.std.proofs.lemmas.Option.{same_Some}
use Rattle.judy_sl.specs.Scans.{value_found}
use Rattle.judy_model.proofs.lemmas.maps.Pairs.{find-at}
use Rattle.judy_pipe.specs.Pipe.{grown}
use Rattle.judy_pipe.specs.declared.stop.PipeFailed.{PipeFailed}
use Rattle.judy_shelf.specs.Writes.{Sunk, WroteAll, WroteFront, Wrote}
use Rattle.judy_shelf.proofs.WriteLemmas.{wrote_both, wrote_second, wrote_first, wrote_then, grown_nothing}

-- ---- the entries of a map in turn

module _ {K : Type 0} {order : K → K → Ordering} (total : IsTotalOrder order) (m : FinMap order ℕ) where
  -- A walk goes on from each entry to the one behind it.
  pub walk_on : (place : ℕ) (key : K) → slice_get (keys m) place ≡ Some key → next m key ≡ slice_get (keys m) (suc place)
  walk_on place key at = next-slice_get total m key ∙ ap (slice_get (keys m)) (count_up_to_at total m place key at)

  entry_of_key : (place : ℕ) (key : K) (found : Option (K × ℕ)) → slice_get (entries m) place ≡ found → option_map (λ e. e.0) found ≡ Some key →
      (value : ℕ) × (get m key ≡ Some value) × (slice_get (entries m) place ≡ Some (key, value))
  entry_of_key place key None at is = absurd cc
  entry_of_key place key (Some pair) at is =
      let same : pair.0 ≡ key = cc in
      let within = slice_get_within (entries m) place pair at in
      let there = get_or_from_slice_get (entries m) place pair pair at in
      let held : get m key ≡ Some pair.1 = get-entries m key ∙ find-at order total (entries m) key place pair (entries_sorted m) within
      (ap (λ e. order e.0 key) there ∙ ap (λ k. order k key) same ∙ tied_itself total key) ∙ ap (λ e. Some e.1) there in
      (pair.1, held, at ∙ ap Some (λ t. (same t, pair.1)))

  -- The entry at a place is the key there with its value.
  pub entry_there : (place : ℕ) (key : K) → slice_get (keys m) place ≡ Some key → (value : ℕ) × (get m key ≡ Some value) × (slice_get (entries m) place ≡ Some (key, value))
  entry_there place key at = entry_of_key place key (slice_get (entries m) place) refl (sym (slice_get-map (λ e. e.0) (entries m) place) ∙ at)

  no_entry_of : (place : ℕ) (found : Option (K × ℕ)) → option_map (λ e. e.0) found ≡ None → found ≡ None
  no_entry_of place None is = refl
  no_entry_of place (Some pair) is = absurd cc

  pub no_entry_there : (place : ℕ) → slice_get (keys m) place ≡ None → slice_get (entries m) place ≡ None
  no_entry_there place at = no_entry_of place (slice_get (entries m) place) (sym (slice_get-map (λ e. e.0) (entries m) place) ∙ at)

-- ---- the entries of a map of strings in turn

none_below_empty : (ks : List (List ℕ)) → length (filter (λ key. is_lt (byte_order key [])) ks) ≡ 0
none_below_empty [] = refl
none_below_empty ([] ∷ ks) = none_below_empty ks
none_below_empty ((byte ∷ key) ∷ ks) = none_below_empty ks

module _ (m : FinMap byte_order ℕ) where
  pub walk_first_string : first m [] ≡ slice_get (keys m) 0
  unfolding rank
  walk_first_string = first-slice_get nat_list_cmp_total m [] ∙ ap (slice_get (keys m)) (none_below_empty (keys m))

  pub walk_on_string : (place : ℕ) (key : List ℕ) → slice_get (keys m) place ≡ Some key → next m key ≡ slice_get (keys m) (suc place)
  walk_on_string place key at = walk_on nat_list_cmp_total m place key at

  -- The walk stands at a place: at this key with this value, or behind all.
  abbrev pub IsAt : ℕ → List ℕ → Option ℕ → Type 0
  IsAt place key None = slice_get (keys m) place ≡ None
  IsAt place key (Some value) = (slice_get (keys m) place ≡ Some key) × (get m key ≡ Some value)

  stands : (place : ℕ) (old : List ℕ) (found : Option (List ℕ)) → slice_get (keys m) place ≡ found → IsAt place (unwrap_or found old) (value_found m found)
  stands place old None at = at
  stands place old (Some key) at =
      let there = entry_there nat_list_cmp_total m place key at in
      subst (λ o. IsAt place key o) (sym there.1) (at, there.1)

  pub is_at : (place : ℕ) (old key : List ℕ) (found : Option (List ℕ)) (value : Option ℕ) → found ≡ slice_get (keys m) place → key ≡ unwrap_or found old →
      value ≡ value_found m found → IsAt place key value
  is_at place old key found value at keyed valued =
      subst (λ k. IsAt place k value) (sym keyed) (subst (λ v. IsAt place (unwrap_or found old) v) (sym valued) (stands place old found (sym at)))

  -- The entry at which it stands.
  pub entry_here : (place : ℕ) (key : List ℕ) (value : ℕ) → IsAt place key (Some value) → slice_get (entries m) place ≡ Some (key, value)
  entry_here place key value at =
      let there = entry_there nat_list_cmp_total m place key at.0 in
      let same : there.0 ≡ value = same_Some there.0 value (sym there.1 ∙ at.1) in
      there.2 ∙ ap (λ v. Some (key, v)) same

  -- How many entries are to come.
  abbrev pub to_come : List ℕ → Option ℕ → ℕ
  to_come key None = 0
  to_come key (Some value) = suc (length (keys m)) - rank m key

  pub falls : (place : ℕ) (key after : List ℕ) (value : ℕ) (next : Option ℕ) → IsAt place key (Some value) → IsAt (suc place) after next → to_come after next < to_come key (Some value)
  falls place key after value None here there =
      let at = rank_at nat_list_cmp_total m place key here.0 in
      let within = slice_get_within (keys m) place key here.0 in
      omega (arith, at, within)
  falls place key after value (Some other) here there =
      let at = rank_at nat_list_cmp_total m place key here.0 in
      let then = rank_at nat_list_cmp_total m (suc place) after there.0 in
      let within = slice_get_within (keys m) place key here.0 in
      omega (arith, at, then, within)

-- ---- items in turn

module _ {A B : Type 0} (text : A → List B) where
  pub take_one : (items : List A) (place : ℕ) (item : A) → slice_get items place ≡ Some item → flat_map text (take (suc place) items) ≡ flat_map text (take place items) ++ text item
  take_one [] place item at = absurd cc
  take_one (x ∷ items) zero item at = let same : x ≡ item = cc in append-nil (text x) ∙ ap text same
  take_one (x ∷ items) (suc place) item at = ap (λ t. text x ++ t) (take_one items place item at) ∙ sym (append_assoc (text x) (flat_map text (take place items)) (text item))

  pub take_none : (items : List A) (place : ℕ) → slice_get items place ≡ None → take place items ≡ items
  take_none [] zero at = refl
  take_none [] (suc place) at = refl
  take_none (x ∷ items) zero at = absurd cc
  take_none (x ∷ items) (suc place) at = ap (λ xs. x ∷ xs) (take_none items place at)

module _ {A : Type 0} (text : A → List ℕ) where
  module _ (items : List A) (before : Sunk) where
    -- The items before a place are written.
    abbrev pub Written : ℕ → Sunk → Type 0
    Written place now = (now.taken ≡ grown before.taken (flat_map text (take place items))) × (now.failures ≡ before.failures)

    pub written_none : Written 0 before
    written_none = (sym (grown_nothing before.taken), refl)

    pub written_more : (place : ℕ) (item : A) (mid after : Sunk) → Written place mid → slice_get items place ≡ Some item → WroteAll (text item) mid after → Written (suc place) after
    written_more place item mid after written at wrote =
        let both = wrote_both (flat_map text (take place items)) (text item) before mid after written wrote in
        (both.0 ∙ ap (grown before.taken) (sym (take_one text items place item at)), both.1)

    pub written_stop : (place : ℕ) (item : A) (mid after : Sunk) → Written place mid → slice_get items place ≡ Some item → WroteFront (text item) mid after →
        WroteFront (flat_map text items) before after
    written_stop place item mid after written at wrote =
        let both = wrote_second (flat_map text (take place items)) (text item) before mid after written wrote in
        let here : WroteFront (flat_map text (take (suc place) items)) before after = subst (λ t. WroteFront t before after) (sym (take_one text items place item at)) both in
        subst (λ t. WroteFront t before after) (sym (flat_map-append text (take (suc place) items) (drop (suc place) items)) ∙ ap (flat_map text) (take-append-drop (suc place) items))
        (wrote_first (flat_map text (take (suc place) items)) (flat_map text (drop (suc place) items)) before after here)

    pub written_all : (place : ℕ) (now : Sunk) → Written place now → slice_get items place ≡ None → WroteAll (flat_map text items) before now
    written_all place now written at = (written.0 ∙ ap (λ xs. grown before.taken (flat_map text xs)) (take_none text items place at), written.1)

-- ---- entries that are written page by page

module _ {E : Type 0} (line : E → List ℕ) (all : List ℕ) (before : Sunk) where
  -- Whatever comes of the writing of some entries, comes of the writing of the whole.
  abbrev pub IsRest : Sunk → List E → Type 0
  IsRest now entries = (result : Result (Unit {0}) PipeFailed) (after : Sunk) → Wrote (flat_map line entries) now result after → Wrote all before result after

  page_and_others : (told : ℕ) (entries : List E) → flat_map line (take told entries) ++ flat_map line (drop told entries) ≡ flat_map line entries
  page_and_others told entries = sym (flat_map-append line (take told entries) (drop told entries)) ∙ ap (flat_map line) (take-append-drop told entries)

  -- A page of which a front was written ends it.
  pub page_failed : (fault : PipeFailed) (told : ℕ) (entries : List E) (now after : Sunk) → IsRest now entries → WroteFront (flat_map line (take told entries)) now after → WroteFront all before after
  page_failed fault told entries now after is_rest front =
      is_rest (Err fault) after
      (subst (λ text. WroteFront text now after) (page_and_others told entries) (wrote_first (flat_map line (take told entries)) (flat_map line (drop told entries)) now after front))

  -- Behind a page that was written whole the others are the rest.
  pub page_passed : (told : ℕ) (entries : List E) (now mid : Sunk) → IsRest now entries → WroteAll (flat_map line (take told entries)) now mid → IsRest mid (drop told entries)
  page_passed told entries now mid is_rest page result after others =
      is_rest result after
      (subst (λ text. Wrote text now result after) (page_and_others told entries) (wrote_then (flat_map line (take told entries)) (flat_map line (drop told entries)) now mid after result page others))

  -- Behind the last page all is written.
  pub pages_ended : (now : Sunk) → IsRest now [] → WroteAll all before now
  pages_ended now is_rest = is_rest (Ok tt) now (sym (grown_nothing now.taken), refl)

-- The front of a page that was filled from entries.
pub page_filled : {E : Type 0} (told : ℕ) (some page behind : List E) → told ≤ length some → page ≡ take told some ++ behind → take told page ≡ take told some
page_filled told some page behind within is = ap (take told) is ∙ take_at (take told some) behind told (length-take-le told some within)
