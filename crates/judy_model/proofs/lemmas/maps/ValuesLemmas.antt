-- What holds of each value of a map of words, by what each key has.
use Rattle.std.proofs.Common.{◌≡◌, ℕ, ◌<◌, true, false, cond, List, [], ◌∷◌, map, length, get_or, Some, None, All, sym, subst, ◌∙◌, arith}
use Rattle.std.specs.List.{AllByRecursion}
use Rattle.std.specs.Ordering.{eq_by_cmp}
use Rattle.std.specs.Cmp.{nat_cmp_total, tied_itself}
use Rattle.std.specs.FinMap.{FinMap, entries, entries_sorted, values, find, get, get-entries, get-empty, get-insert, get-remove, empty, insert, remove, contains_key}
use Rattle.std.proofs.lemmas.List.{length-map, get_or-map}
use Rattle.std.proofs.lemmas.List.Elements.{recursion_from_All}
use Rattle.std.proofs.lemmas.Option.{none-some}
use Rattle.judy_model.specs.Keys.{word_order}
use Rattle.judy_model.specs.Arrays.{ins, del}
use Rattle.judy_model.proofs.lemmas.maps.Pairs.{find-at}

module _ (P : ℕ → Type 0) where
  found : (key value : ℕ) (pairs : List (ℕ × ℕ)) → AllByRecursion P (map (λ e. e.1) pairs) → find word_order key pairs ≡ Some value → P value
  found key value [] all is = absurd (none-some value is)
  found key value (pair ∷ pairs) all is =
      elim (eq_by_cmp word_order key pair.0) as (λ b. cond b (Some pair.1) (find word_order key pairs) ≡ Some value → P value) [
        | true ↦ λ here. let same : pair.1 ≡ value = cc in subst P same all.0
        | false ↦ λ later. found key value pairs all.1 later
      ] is

  -- What holds of each value holds of the one that a key has.
  pub value_from_All : (map : FinMap word_order ℕ) (key value : ℕ) → All P (values map) → get map key ≡ Some value → P value
  value_from_All map key value all is = found key value (entries map) (recursion_from_All P (values map) all) (sym (get-entries map key) ∙ is)

  -- The way back: what holds of the value of each key holds of each value.
  pub All-values : (map : FinMap word_order ℕ) → ((key value : ℕ) → get map key ≡ Some value → P value) → All P (values map)
  All-values map each = λ k d within.
      let pairs = entries map in
      let long : length (values map) ≡ length pairs = length-map pairs (λ e. e.1) in
      let inside : k < length pairs = omega arith in
      let pair = get_or pairs k (0, 0) in
      let has = get-entries map pair.0 ∙ find-at word_order nat_cmp_total pairs pair.0 k (0, 0) (entries_sorted map) inside (tied_itself nat_cmp_total pair.0) in
      subst P (sym (get_or-map (λ e. e.1) pairs k (0, 0) d inside)) (each pair.0 pair.1 has)

  -- Of the empty map there is none.
  pub All-values-empty : All P (values (empty {R = word_order}))
  All-values-empty = All-values empty (λ key value is. absurd (none-some value (sym (get-empty word_order key) ∙ is)))

  -- An insert puts one value in.
  pub All-values-insert : (map : FinMap word_order ℕ) (key value : ℕ) → P value → All P (values map) → All P (values (insert map key value))
  All-values-insert map key value here all = All-values (insert map key value) (λ other held is.
      elim (eq_by_cmp word_order other key) as (λ b. cond b (Some value) (get map other) ≡ Some held → P held) [
        | true ↦ λ tied. let same : value ≡ held = cc in subst P same here
        | false ↦ λ apart. value_from_All map other held all apart
      ] (sym (get-insert nat_cmp_total map key value other) ∙ is))

  -- The insert that keeps what a key has puts 0 in, if anything.
  pub All-values-ins : (map : FinMap word_order ℕ) (key : ℕ) → P 0 → All P (values map) → All P (values (ins map key))
  All-values-ins map key here all =
      elim (contains_key map key) as (λ b. All P (values (cond b map (insert map key 0)))) [
        | true ↦ all
        | false ↦ All-values-insert map key 0 here all
      ]

  -- A delete puts none in.
  pub All-values-del : (map : FinMap word_order ℕ) (key : ℕ) → All P (values map) → All P (values (del map key))
  All-values-del map key all = All-values (remove map key) (λ other held is.
      elim (eq_by_cmp word_order other key) as (λ b. cond b None (get map other) ≡ Some held → P held) [
        | true ↦ λ tied. absurd (none-some held tied)
        | false ↦ λ apart. value_from_All map other held all apart
      ] (sym (get-remove nat_cmp_total map key other) ∙ is))
