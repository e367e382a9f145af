-- What a search tells that takes the first key that isn't below.
use Rattle.std.proofs.Common.{◌≡◌, ◌≢◌, ℕ, ◌<◌, List, length, get_or, Ok, Err, sym, ap, ◌∙◌, subst, arith}
use Rattle.std.specs.List.Sorted.{IsStrictlySortedBy}
use Rattle.judy_model.specs.Keys.{word_order}
use Rattle.judy_bits.specs.ByteSets as set
use Rattle.judy_leaf.specs.Nearby.{IsNextAt}
use Rattle.judy_leaf.specs.Searches.{IsSearched}
use Rattle.judy_leaf.proofs.Counted.{place-there}
use Rattle.judy_leaf.proofs.Nearest.{absent_at}

module _ (keys mine : List ℕ) (same : keys ≡ mine) (ascending : IsStrictlySortedBy word_order mine) (key : ℕ) where
  pub searched_found : (found : ℕ × ℕ) → IsNextAt keys key found → found.1 ≡ key → IsSearched mine key (Ok found.0)
  searched_found found is here =
      sym (place-there mine ascending key found.0 (is.place ∙ ap (λ ks. set.rank ks key) same) (subst (λ ks. found.0 < length ks) same is.key.inside)
      (ap (λ ks. get_or ks found.0 0) (sym same) ∙ sym is.key.there ∙ here))

  pub searched_other : (found : ℕ × ℕ) → IsNextAt keys key found → found.1 ≢ key → IsSearched mine key (Err found.0)
  searched_other found is apart =
      let ranked = is.place ∙ ap (λ ks. set.rank ks key) same in
      (absent_at mine ascending key found.0 ranked (λ inside here. apart (is.key.there ∙ ap (λ ks. get_or ks found.0 0) same ∙ here)), ranked)

  pub searched_none : (count : ℕ) → set.rank keys key ≡ count → count ≡ length mine → IsSearched mine key (Err count)
  searched_none count all long =
      let ranked : count ≡ set.rank mine key = sym all ∙ ap (λ ks. set.rank ks key) same in
      (absent_at mine ascending key count ranked (λ inside _. let never : ⊥ = omega arith in absurd never), ranked)
