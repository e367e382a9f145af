-- The entry behind which the key at a place stands, as it is found among entries page by page.
use Rattle.std.proofs.Common.{◌≡◌, ℕ, ◌+◌, ◌<◌, ◌≤◌, List, [], ◌∷◌, ◌++◌, length, take, drop, get_or, refl, sym, ap, ◌∙◌, subst, append_assoc, arith}
use Rattle.std.specs.List.{flat_map}
use Rattle.std.proofs.lemmas.List.{length-append, take-append-drop, drop_more}
use Rattle.std.proofs.lemmas.List.Concat.{flat_map-append}
use Rattle.judy_sl.specs.declared.nth.EntryPlace.{EntryPlace}
use Rattle.judy_sl.specs.World.{World}
use Rattle.judy_sl.specs.Behind.{entry_keys}
use Rattle.judy_sl.specs.Counted.{keys_behind_all}
use Rattle.judy_sl.specs.Nth.{IsSpotIn}
use Rattle.judy_sl.proofs.lemmas.places.PageCounts.{front_rest}

-- An entry of a page stands between those before it and those behind.
pub split_at : (page : List (ℕ × ℕ)) (place : ℕ) → place < length page → page ≡ take place page ++ get_or page place (0, 0) ∷ drop (place + 1) page
split_at page place within = sym (take-append-drop place page) ∙ ap (λ pairs. take place page ++ pairs) (drop_more page place (0, 0) within)

module _ (world : World) where
  keys_both : (front back : List (ℕ × ℕ)) → keys_behind_all world (front ++ back) ≡ keys_behind_all world front + keys_behind_all world back
  keys_both front back = ap length (flat_map-append (entry_keys world) front back) ∙ length-append (flat_map (entry_keys world) front) (flat_map (entry_keys world) back)

  -- Some entries were passed, and the key is sought behind the others.
  pub record Reading (all rest : List (ℕ × ℕ)) (place left : ℕ) : Type 0 where
    pub seen : List (ℕ × ℕ)
    pub split : all ≡ seen ++ rest
    pub passed : place ≡ keys_behind_all world seen + left
    pub within : left < keys_behind_all world rest

  -- What is found behind some entries is found behind all.
  pub spot_behind : (all seen rest : List (ℕ × ℕ)) (place left : ℕ) (spot : EntryPlace) → all ≡ seen ++ rest → place ≡ keys_behind_all world seen + left →
      IsSpotIn world rest left spot → IsSpotIn world all place spot
  spot_behind all seen rest place left spot split passed is =
      let entry : ℕ × ℕ = (spot.piece, spot.value) in
      let front = keys_both seen is.front in
      let own = is.passed in
      record {
        front = seen ++ is.front;
        back = is.back;
        split = split ∙ ap (λ pairs. seen ++ pairs) is.split ∙ sym (append_assoc seen is.front (entry ∷ is.back));
        within = is.within;
        passed = omega arith;
      }

  -- What is found in front is found among all.
  spot_front : (front back : List (ℕ × ℕ)) (place : ℕ) (spot : EntryPlace) → IsSpotIn world front place spot → IsSpotIn world (front ++ back) place spot
  spot_front front back place spot is =
      let entry : ℕ × ℕ = (spot.piece, spot.value) in
      record {
        front = is.front;
        back = is.back ++ back;
        split = ap (λ pairs. pairs ++ back) is.split ∙ append_assoc is.front (entry ∷ is.back) back;
        within = is.within;
        passed = is.passed;
      }

  -- At the start all are left.
  pub reading_start : (all : List (ℕ × ℕ)) (place : ℕ) → place < keys_behind_all world all → Reading all all place place
  reading_start all place within = record { seen = []; split = refl; passed = omega arith; within = within }

  -- While the key is sought there are entries left.
  pub reading_some : (all rest : List (ℕ × ℕ)) (place left : ℕ) → Reading all rest place left → 1 ≤ length rest
  reading_some all [] place left on = absurd (let never = on.within in let no : ⊥ = omega arith in no)
  reading_some all (entry ∷ rest) place left on = omega arith

  module _ (all rest : List (ℕ × ℕ)) (place told left : ℕ) (on : Reading all rest place left) where
    -- It stands behind those that come after a page,
    pub reading_page : (later : ℕ) → left ≡ keys_behind_all world (take told rest) + later → Reading all (drop told rest) place later
    reading_page later is =
        let both = front_rest world rest told in
        let front = keys_both on.seen (take told rest) in
        let passed = on.passed in
        let within = on.within in
        record {
          seen = on.seen ++ take told rest;
          split = on.split ∙ ap (λ pairs. on.seen ++ pairs) (sym (take-append-drop told rest)) ∙ sym (append_assoc on.seen (take told rest) (drop told rest));
          passed = omega arith;
          within = omega arith;
        }

    -- or behind one of the page.
    pub reading_spot : (spot : EntryPlace) → IsSpotIn world (take told rest) left spot → IsSpotIn world all place spot
    reading_spot spot found =
        spot_behind all on.seen rest place left spot on.split on.passed (subst (λ pairs. IsSpotIn world pairs left spot) (take-append-drop told rest)
        (spot_front (take told rest) (drop told rest) left spot found))
