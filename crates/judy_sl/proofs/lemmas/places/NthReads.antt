-- The entry of a level behind which the key at a place stands, as it is found among its entries.
use Rattle.std.proofs.Common.{◌≡◌, ℕ, zero, suc, ◌-◌, ◌<◌, ◌≤◌, List, [], ◌∷◌, ◌++◌, length, slice_get, map, Some, refl, sym, ap, ◌∙◌, subst, arith}
use Rattle.std.specs.List.{flat_map, AllByRecursion}
use Rattle.std.specs.Cmp.{nat_cmp_total}
use Rattle.std.specs.FinMap.{FinMap, nat_cmp-IsAntisymmetric, entries, entries_sorted, get, get-entries, len, len-entries}
use Rattle.std.proofs.lemmas.List.{length-append}
use Rattle.std.proofs.lemmas.List.Concat.{flat_map-append}
use Rattle.std.proofs.lemmas.Option.{same_Some}
use Rattle.judy_model.specs.Keys.{word_order}
use Rattle.judy_model.specs.Counts.{by_count}
use Rattle.judy_model.proofs.lemmas.queries.RankLemmas.{nth-slice_get}
use Rattle.judy_sums.proofs.Parts.{each_found}
use Rattle.judy_sl.specs.declared.nth.EntryPlace.{EntryPlace}
use Rattle.judy_sl.specs.World.{World}
use Rattle.judy_sl.specs.Behind.{entry_keys}
use Rattle.judy_sl.specs.Counted.{keys_behind_all}
use Rattle.judy_sl.specs.Nth.{IsSpotIn, IsSpotOf}
use Rattle.judy_sl.proofs.lemmas.places.Nths.{place_at}

-- What a list has at a place within its front, and behind it.
pub slice_get-front : {X : Type 0} (front back : List X) (place : ℕ) → place < length front → slice_get (front ++ back) place ≡ slice_get front place
slice_get-front [] back place inside = absurd (let never : ⊥ = omega arith in never)
slice_get-front (key ∷ front) back zero inside = refl
slice_get-front (key ∷ front) back (suc place) inside = slice_get-front front back place (omega arith)

pub slice_get-back : {X : Type 0} (front back : List X) (place : ℕ) → length front ≤ place → slice_get (front ++ back) place ≡ slice_get back (place - length front)
slice_get-back [] back place past = ap (slice_get back) (let e : place ≡ place - 0 = omega arith in e)
slice_get-back (key ∷ front) back zero past = absurd (let never : ⊥ = omega arith in never)
slice_get-back (key ∷ front) back (suc place) past =
    slice_get-back front back place (omega arith) ∙ ap (slice_get back) (let e : place - length front ≡ suc place - suc (length front) = omega arith in e)

-- Each entry of a level is found there.
abbrev pub AreOf : FinMap word_order ℕ → List (ℕ × ℕ) → Type 0
AreOf words pairs = AllByRecursion (λ (entry : ℕ × ℕ). get words entry.0 ≡ Some entry.1) pairs

pub all_of : (words : FinMap word_order ℕ) → AreOf words (entries words)
all_of words =
    each_found word_order nat_cmp_total nat_cmp-IsAntisymmetric (λ (entry : ℕ × ℕ). get words entry.0 ≡ Some entry.1) (entries words) (entries_sorted words)
    (λ piece value found. get-entries words piece ∙ found)

-- Where a level has one entry, it is the one that is found.
only_one : (words : FinMap word_order ℕ) (piece value : ℕ) → get words piece ≡ Some value → (pairs : List (ℕ × ℕ)) → length pairs ≡ 1 → AreOf words pairs →
    slice_get (map (λ (pair : ℕ × ℕ). pair.0) pairs) 0 ≡ Some piece → pairs ≡ (piece, value) ∷ []
only_one words piece value held [] one are at = absurd (let never : ⊥ = omega arith in never)
only_one words piece value held (entry ∷ []) one are at =
    let first : entry.0 ≡ piece = same_Some entry.0 piece at in
    let second : entry.1 ≡ value = same_Some entry.1 value (sym are.0 ∙ ap (get words) first ∙ held) in
    ap (λ word. (word, entry.1) ∷ []) first ∙ ap (λ place. (piece, place) ∷ []) second
only_one words piece value held (entry ∷ next ∷ rest) one are at = absurd (let never : ⊥ = omega arith in never)

-- An entry that stands among them is.
one_of : (words : FinMap word_order ℕ) (front : List (ℕ × ℕ)) (entry : ℕ × ℕ) (back : List (ℕ × ℕ)) → AreOf words (front ++ entry ∷ back) → get words entry.0 ≡ Some entry.1
one_of words [] entry back are = are.0
one_of words (first ∷ front) entry back are = one_of words front entry back are.1

-- What is found among a level's entries is found in the level.
pub spot_of : (world : World) (words : FinMap word_order ℕ) (place : ℕ) (spot : EntryPlace) → IsSpotIn world (entries words) place spot → IsSpotOf world words place spot
spot_of world words place spot is =
    let entry : ℕ × ℕ = (spot.piece, spot.value) in
    let keys = entry_keys world in
    let within = is.within in
    record {
      held = one_of words is.front entry is.back (subst (AreOf words) is.split (all_of words));
      within = within;
      same = ap (λ pairs. slice_get (flat_map keys pairs) place) is.split
          ∙ ap (λ all. slice_get all place) (flat_map-append keys is.front (entry ∷ is.back))
          ∙ slice_get-back (flat_map keys is.front) (flat_map keys (entry ∷ is.back)) place (let passed = is.passed in omega arith)
          ∙ ap (slice_get (flat_map keys (entry ∷ is.back))) (let passed = is.passed in let e : place - length (flat_map keys is.front) ≡ spot.place = omega arith in e)
          ∙ slice_get-front (keys entry) (flat_map keys is.back) spot.place within;
    }

-- Where a level has one entry, each key stands behind it.
pub only_spot : (world : World) (words : FinMap word_order ℕ) (place piece value : ℕ) → len words ≡ 1 → by_count words 1 ≡ Some piece → get words piece ≡ Some value →
    place < keys_behind_all world (entries words) → IsSpotOf world words place (record { piece = piece; value = value; place = place })
only_spot world words place piece value one at held within =
    let only = only_one words piece value held (entries words) (sym (len-entries words) ∙ one) (all_of words) (sym (nth-slice_get nat_cmp_total words 0) ∙ place_at words 0 piece at) in
    let all = ap (keys_behind_all world) only ∙ length-append (entry_keys world (piece, value)) [] in
    spot_of world words place (record { piece = piece; value = value; place = place }) (record {
      front = [];
      back = [];
      split = only;
      within = omega arith;
      passed = omega arith;
    })
