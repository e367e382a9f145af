-- The key at a place, and how many keys are below a key.
use Rattle.std.proofs.Common.{◌≡◌, ℕ, ◌≤◌, ◌↔◌, IsTrue, ⊎_elim, length, Some, None, sym, ap, ◌∙◌, Ordering, arith}
use Rattle.std.specs.Cmp.{IsTotalOrder}
use Rattle.std.specs.FinMap.{FinMap, IsAntisymmetric, keys, contains_key, len}
use Rattle.std.proofs.lemmas.Option.{slice_get_past, slice_get_cases, none-some}
use Rattle.judy_model.specs.Neighbours.{first, next}
use Rattle.judy_model.specs.Counts.{rank, count_up_to, nth}
use Rattle.judy_model.proofs.lemmas.maps.Ascending.{place_among, Among-slice_get}
use Rattle.judy_model.proofs.lemmas.maps.KeysLemmas.{length-keys, among_keys, contains_key-from_among}
use Rattle.judy_model.proofs.lemmas.queries.RankLemmas.{nth-slice_get, first-slice_get, next-slice_get, rank_at, rank-le, count_up_to-le}

module _ {K : Type 0} {order : K → K → Ordering} (total : IsTotalOrder order) where
  pub first_at_rank : (map : FinMap order ℕ) (key : K) → (nth map (rank map key) ≡ first map key) × (rank map key ≤ len map)
  first_at_rank map key = (nth-slice_get total map (rank map key) ∙ sym (first-slice_get total map key), rank-le total map key)

  pub next_at_count : (map : FinMap order ℕ) (key : K) → (nth map (count_up_to map key) ≡ next map key) × (count_up_to map key ≤ len map)
  next_at_count map key = (nth-slice_get total map (count_up_to map key) ∙ sym (next-slice_get total map key), count_up_to-le total map key)

  pub nth_none : (map : FinMap order ℕ) (place : ℕ) → (nth map place ≡ None) ↔ (len map ≤ place)
  nth_none map place =
      let long : length (keys map) ≡ len map = length-keys map in (
        λ is. ⊎_elim
            (λ some. absurd (none-some some.0 (sym is ∙ nth-slice_get total map place ∙ some.2)))
            (λ past. let reached : length (keys map) ≤ place = past.0 in omega (arith, long, reached))
            (slice_get_cases (keys map) place).1,
        λ above. nth-slice_get total map place ∙ slice_get_past (keys map) place (omega (arith, long, above)),
      )

  module _ (same : IsAntisymmetric order) where
    pub nth-rank : (map : FinMap order ℕ) (place : ℕ) (key : K) → nth map place ≡ Some key → IsTrue (contains_key map key) × (rank map key ≡ place)
    nth-rank map place key is =
        let at = sym (nth-slice_get total map place) ∙ is in
        (contains_key-from_among total same map key (Among-slice_get (keys map) place key at), rank_at total map place key at)

    pub rank-nth : (map : FinMap order ℕ) (key : K) → IsTrue (contains_key map key) → nth map (rank map key) ≡ Some key
    rank-nth map key held =
        let at = place_among (keys map) key (among_keys total same map key held) in
        ap (nth map) (rank_at total map at.0 key at.1) ∙ nth-slice_get total map at.0 ∙ at.1
