-- The entries of a level in order, as a run has them.
use Rattle.std.proofs.Common.{◌≡◌, ◌≢◌, ℕ, zero, suc, ◌<◌, ◌≤◌, Bool, true, false, cond, ◌&&◌, T, IsTrue, ⊎_elim, List, [], ◌∷◌, map, drop, slice_get, Option, Some, None, is_some}
use Rattle.std.proofs.Common.{sym, refl, ap, ◌∙◌, subst, arith, true≢false, is_lt}
use Rattle.std.specs.Ordering.{is_eq}
use Rattle.std.specs.Cmp.{nat_cmp_total, tied_itself}
use Rattle.std.specs.FinMap.{FinMap, nat_cmp-IsAntisymmetric, entries, entries_sorted, keys, get, get-entries, contains_key, find, is_sorted}
use Rattle.std.specs.FinMap.Entries.{below_all}
use Rattle.std.proofs.lemmas.Bool.{and_parts, and_from, cases_lt, false_from_ne_true}
use Rattle.std.proofs.lemmas.Option.{same_Some}
use Rattle.judy_model.specs.Counts.{rank}
use Rattle.judy_model.specs.Keys.{word_order}
use Rattle.judy_model.proofs.lemmas.maps.KeysLemmas.{among_keys}
use Rattle.judy_model.proofs.lemmas.maps.Ascending.{place_among}
use Rattle.judy_model.proofs.lemmas.maps.Pairs.{first_below, rest_sorted, turned_Less}
use Rattle.judy_model.proofs.lemmas.queries.RankLemmas.{rank_at}
use Rattle.judy_model.proofs.lemmas.orders.WordOrder.{less_word, lt_word, lt_from_word, le_word}
use Rattle.judy_sl.specs.declared.scans.Side.TheVariants.{Above}
use Rattle.judy_sl.specs.Scans.{IsFirstEntry}
use Rattle.judy_sl.specs.Runs.{AreBeyond}
use Rattle.judy_sl.specs.Pieces.{IsInner}
use Rattle.judy_sl.specs.World.{World, gone}
use Rattle.judy_sl.specs.Counted.{LeadsOn}
use Rattle.std.specs.List.{All}
use Rattle.std.proofs.lemmas.List.Elements.{All-nil, All-cons}

-- ---- entries whose pieces rise from one on

abbrev IsRising : ℕ → List (ℕ × ℕ) → Type 0
IsRising low [] = Unit {0}
IsRising low (entry ∷ others) = (low < entry.0) × IsRising entry.0 others

true_is : (test : Bool) → T test → test ≡ true
true_is true h = refl
true_is false h = absurd h

left_of : (left right : Bool) → T (left && right) → T left
left_of true right h = tt
left_of false right h = absurd h

-- Entries in order rise from the first on.
rising : (entry : ℕ × ℕ) (others : List (ℕ × ℕ)) → T (is_sorted word_order (entry ∷ others)) → IsRising entry.0 others
rising entry [] sorted = tt
rising entry (next ∷ others) sorted =
    let below = first_below word_order entry (next ∷ others) sorted in (
      lt_from_word entry.0 next.0 (true_is (is_lt (word_order entry.0 next.0)) (left_of (is_lt (word_order entry.0 next.0)) (below_all word_order entry.0 others) below)),
      rising next others (rest_sorted word_order entry (next ∷ others) sorted),
    )

-- What isn't above the one from which they rise isn't among them.
find-low : (piece low : ℕ) (others : List (ℕ × ℕ)) → piece ≤ low → IsRising low others → find word_order piece others ≡ None
find-low piece low [] under up = refl
find-low piece low (entry ∷ others) under up =
    let less = up.0 in
    ap (λ answer. cond (is_eq answer) (Some entry.1) (find word_order piece others)) (less_word piece entry.0 (omega arith))
    ∙ find-low piece entry.0 others (omega arith) up.1

-- What is above the first is found behind it.
find-behind : (piece : ℕ) (entry : ℕ × ℕ) (others : List (ℕ × ℕ)) → entry.0 < piece → find word_order piece (entry ∷ others) ≡ find word_order piece others
find-behind piece entry others less =
    ap (λ answer. cond (is_eq answer) (Some entry.1) (find word_order piece others)) (turned_Less word_order nat_cmp_total entry.0 piece (less_word entry.0 piece less))

find-first : (entry : ℕ × ℕ) (others : List (ℕ × ℕ)) → find word_order entry.0 (entry ∷ others) ≡ Some entry.1
find-first entry others = ap (λ answer. cond (is_eq answer) (Some entry.1) (find word_order entry.0 others)) (tied_itself nat_cmp_total entry.0)

-- They are above the one from which they rise.
rising-at : (low place piece : ℕ) (others : List (ℕ × ℕ)) → IsRising low others → slice_get (map (λ e. e.0) others) place ≡ Some piece → low < piece
rising-at low place piece [] up at = cc
rising-at low zero piece (entry ∷ others) up at = let same = same_Some entry.0 piece at in let less = up.0 in omega (arith, same, less)
rising-at low (suc place) piece (entry ∷ others) up at = let less = up.0 in let more = rising-at entry.0 place piece others up.1 at in omega (arith, less, more)

module _ (words : FinMap word_order ℕ) where
  nothing : (piece : ℕ) → get words piece ≡ None → IsTrue (contains_key words piece) → ⊥
  nothing piece none held = true≢false (sym held ∙ ap (λ (found : Option ℕ). is_some found) none)

  -- Where a level has just these above a piece, they are those beyond it.
  pub are_beyond : (low : ℕ) (others : List (ℕ × ℕ)) → IsRising low others → ((piece : ℕ) → low < piece → get words piece ≡ find word_order piece others) → AreBeyond words low others
  are_beyond low [] up tells = λ piece. false_from_ne_true (contains_key words piece && is_lt (word_order low piece)) (λ passes.
      let parts = and_parts (contains_key words piece) (is_lt (word_order low piece)) passes in
      nothing piece (tells piece (lt_from_word low piece parts.1)) parts.0)
  are_beyond low (entry ∷ others) up tells =
      let less = up.0 in
      let here : get words entry.0 ≡ Some entry.1 = tells entry.0 less ∙ find-first entry others in (
        (
          and_from (contains_key words entry.0) (is_lt (word_order low entry.0)) (ap (λ (found : Option ℕ). is_some found) here) (lt_word low entry.0 less),
          λ piece passes.
              let parts = and_parts (contains_key words piece) (is_lt (word_order low piece)) passes in
              let more = lt_from_word low piece parts.1 in
              le_word entry.0 piece (⊎_elim
              (λ under. absurd (nothing piece (tells piece more ∙ find-low piece piece (entry ∷ others) (omega arith) (under, up.1)) parts.0))
              (λ over. over)
              (cases_lt piece entry.0)),
        ),
        here,
        are_beyond entry.0 others up.1 (λ piece above. tells piece (omega (arith, less, above)) ∙ find-behind piece entry others above),
      )

  -- ---- all entries

  -- The first of them is met first, and the others are those beyond it.
  pub first_of_all : (entry : ℕ × ℕ) (others : List (ℕ × ℕ)) → entries words ≡ entry ∷ others → IsFirstEntry Above words (Some entry.0) × (get words entry.0 ≡ Some entry.1) ×
      AreBeyond words entry.0 others
  first_of_all entry others are =
      let up = rising entry others (subst (λ all. T (is_sorted word_order all)) are (entries_sorted words)) in
      let tells : (piece : ℕ) → get words piece ≡ find word_order piece (entry ∷ others) = λ piece. get-entries words piece ∙ ap (find word_order piece) are in
      let here : get words entry.0 ≡ Some entry.1 = tells entry.0 ∙ find-first entry others in (
        (
          ap (λ (found : Option ℕ). is_some found) here,
          λ piece held.
              le_word entry.0 piece (⊎_elim
              (λ under. absurd (nothing piece (tells piece ∙ find-low piece piece (entry ∷ others) (omega arith) (under, up)) held))
              (λ over. over)
              (cases_lt piece entry.0)),
        ),
        here,
        are_beyond entry.0 others up (λ piece above. tells piece ∙ find-behind piece entry others above),
      )

  -- Where there are none, none is met.
  pub none_of_all : entries words ≡ [] → IsFirstEntry Above words None
  none_of_all are = λ piece. false_from_ne_true (contains_key words piece) (λ held. nothing piece (get-entries words piece ∙ ap (find word_order piece) are) held)

  -- ---- those from a piece on

  -- The first is the piece's own.
  pub record StandFrom (piece value : ℕ) (all : List (ℕ × ℕ)) : Type 0 where
    pub others : List (ℕ × ℕ)
    pub are : all ≡ (piece, value) ∷ others
    pub beyond : AreBeyond words piece others

  module _ (piece value : ℕ) (held : get words piece ≡ Some value) where
    stand_at : (place : ℕ) (all : List (ℕ × ℕ)) → T (is_sorted word_order all) → slice_get (map (λ e. e.0) all) place ≡ Some piece →
        ((other : ℕ) → piece ≤ other → get words other ≡ find word_order other all) → StandFrom piece value (drop place all)
    stand_at place [] sorted at tells = cc
    stand_at zero (entry ∷ others) sorted at tells =
        let same : entry.0 ≡ piece = same_Some entry.0 piece at in
        let its : entry.1 ≡ value = same_Some entry.1 value (sym (find-first entry others) ∙ ap (λ p. find word_order p (entry ∷ others)) same ∙ sym (tells piece (omega arith)) ∙ held) in
        record {
          others = others;
          are = (λ t. (same t, its t) ∷ others);
          beyond =
              are_beyond piece others (subst (λ p. IsRising p others) same (rising entry others sorted))
              (λ other above. tells other (omega (arith, above)) ∙ find-behind other entry others (omega (arith, same, above)));
        }
    stand_at (suc place) (entry ∷ others) sorted at tells =
        let less = rising-at entry.0 place piece others (rising entry others sorted) at in
        stand_at place others (rest_sorted word_order entry others sorted) at (λ other above. tells other above ∙ find-behind other entry others (omega (arith, less, above)))

    pub stand_from : StandFrom piece value (drop (rank words piece) (entries words))
    stand_from =
        let place = place_among (keys words) piece (among_keys nat_cmp_total nat_cmp-IsAntisymmetric words piece (ap (λ (found : Option ℕ). is_some found) held)) in
        subst (λ n. StandFrom piece value (drop n (entries words))) (sym (rank_at nat_cmp_total words place.0 piece place.1))
        (stand_at place.0 (entries words) (entries_sorted words) place.1 (λ other above. get-entries words other))

-- What the entries beyond a piece lead to is there, where that holds of each entry.
pub beyond_lead : (world : World) (words : FinMap word_order ℕ) (piece : ℕ) (others : List (ℕ × ℕ)) → ((other at : ℕ) → get words other ≡ Some at → IsInner other → world (suc at) ≢ gone) →
    AreBeyond words piece others → All (LeadsOn world) others
beyond_lead world words piece [] leads are = All-nil (LeadsOn world)
beyond_lead world words piece (entry ∷ others) leads are = All-cons (LeadsOn world) entry others (leads entry.0 entry.1 are.1) (beyond_lead world words entry.0 others leads are.2)
