use Rattle.std.proofs.Common.{◌≡◌, ℕ, true, true≢false, List, [], ◌∷◌, length, is_some, refl, sym, ap, ◌∙◌}
use Rattle.std.specs.Cmp.{nat_cmp_total}
use Rattle.std.specs.FinMap.{contains_key, len, from_sorted, is_sorted, find, nat_cmp-IsAntisymmetric}
use Rattle.judy_model.specs.Keys.{word_order}
use Rattle.judy_model.specs.TwoMaps.{IsSubset}
use Rattle.judy_model.proofs.lemmas.maps.MapsOfPairs.{words-get, words-len, words-empty}
use Rattle.judy_laws.proofs.lemmas.Joins.{subset_has_all, disjoint_has_none, same_keys_are_subsets}
use Rattle.judy_laws.proofs.lemmas.JoinsOfPairs.{shared, words-intersection}
use Rattle.judy_laws.proofs.examples.two_maps.keys_alone_are_compared.Goals as goal

abbrev Pairs : Type 0
Pairs = List (ℕ × ℕ)

subset_of : (one other : Pairs) → is_sorted word_order one ≡ true → is_sorted word_order other ≡ true → is_sorted word_order (shared word_order one other) ≡ true →
    length (shared word_order one other) ≡ length one → IsSubset (from_sorted {R = word_order} one) (from_sorted other)
subset_of one other rising also common as_many =
    (subset_has_all nat_cmp_total nat_cmp-IsAntisymmetric (from_sorted one) (from_sorted other)).1
    (ap len (words-intersection one other rising also) ∙ words-len (shared word_order one other) common ∙ as_many ∙ sym (words-len one rising))

held : (pairs : Pairs) (key : ℕ) → is_sorted word_order pairs ≡ true → contains_key (from_sorted {R = word_order} pairs) key ≡ is_some (find word_order key pairs)
held pairs key rising = ap is_some (words-get pairs key rising)

abbrev ours : Pairs
ours = (2, 20) ∷ (4, 40) ∷ []

abbrev theirs : Pairs
theirs = (4, 44) ∷ (7, 77) ∷ []

abbrev zeros : Pairs
zeros = (2, 0) ∷ (4, 0) ∷ []

abbrev seven : Pairs
seven = (7, 20) ∷ []

-- 2 is a key of the one alone.
not_theirs : IsSubset (from_sorted {R = word_order} ours) (from_sorted theirs) → ⊥
not_theirs subset = true≢false (sym (subset 2 (held ours 2 refl)) ∙ held theirs 2 refl)

pub returns : goal.returns
returns c = record {
  subset = subset_of ((4, 44) ∷ []) ours refl refl refl refl;
  no_subset = not_theirs;
  disjoint = (disjoint_has_none nat_cmp_total nat_cmp-IsAntisymmetric (from_sorted ours) (from_sorted seven)).1 (words-intersection ours seven refl refl ∙ sym words-empty);
  not_disjoint = λ apart. true≢false (sym (held theirs 4 refl) ∙ apart 4 (held ours 4 refl));
  same_keys = (same_keys_are_subsets nat_cmp_total nat_cmp-IsAntisymmetric (from_sorted ours) (from_sorted zeros)).1
      (subset_of ours zeros refl refl refl refl, subset_of zeros ours refl refl refl refl);
  other_keys = λ same. not_theirs ((same_keys_are_subsets nat_cmp_total nat_cmp-IsAntisymmetric (from_sorted ours) (from_sorted theirs)).0 same).0;
}
