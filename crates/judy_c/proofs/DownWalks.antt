-- What a walk downward writes: what is made of the keys up to a word is as many as these.
use Rattle.std.proofs.Common.{◌≡◌, ℕ, List, ◌++◌, length, take, drop, min, reverse, sym, ap, subst, ◌∙◌, arith}
use Rattle.std.proofs.Math.Nat.{min-zero}
use Rattle.std.specs.Cmp.{nat_cmp_total}
use Rattle.std.specs.FinMap.{FinMap, entries, len, len-entries, len-empty}
use Rattle.std.specs.List.{take-map}
use Rattle.std.proofs.lemmas.List.{length-map, length-reverse, length-take-le}
use Rattle.judy_model.specs.Counts.{count_up_to}
use Rattle.judy_model.specs.Keys.{word_order}
use Rattle.judy_model.proofs.lemmas.queries.RankLemmas.{count_up_to-le}
use Rattle.judy_leaf.specs.Fills.{made_of}
use Rattle.judy_sets.specs.Downward.{up_to}
use Rattle.judy_sets.proofs.DownFacts.{made_turned}
use Rattle.judy_word.specs.WordArrays.{WordArray}
use Rattle.judy_c.specs.NullArrays.{unbounded}
use Rattle.judy_c.specs.Walks.{IsFilled, keys_down}

module _ (map : FinMap word_order ℕ) (from : ℕ) where
  long : length (reverse (up_to map from)) ≡ count_up_to map from
  long =
      let most = count_up_to-le nat_cmp_total map from in
      let held = len-entries map in
      length-reverse (up_to map from) ∙ length-take-le (count_up_to map from) (entries map) (omega (arith, most, held))

  -- where as many are written as there are or fit
  pub made_filled : {E : Type 0} (made : ℕ → ℕ → E) (before after : List E) (count : ℕ) → count ≡ min (length before) (count_up_to map from)
      → after ≡ take count (made_of made (reverse (up_to map from))) ++ drop count before → IsFilled (made_of made (reverse (up_to map from))) before count after
  made_filled made before after count told written =
      let all = length-map (reverse (up_to map from)) (λ (pair : ℕ × ℕ). made pair.0 pair.1) ∙ long in
      (told ∙ ap (min (length before)) (sym all), written)

  keys_are : made_of (λ key value. key) (reverse (up_to map from)) ≡ keys_down map from
  keys_are =
      sym (made_turned (λ (pair : ℕ × ℕ). pair.0) (up_to map from))
      ∙ ap reverse (sym (take-map (λ (pair : ℕ × ℕ). pair.0) (count_up_to map from) (entries map)))

  -- and those are the keys alone
  pub keys_filled : (before after : List ℕ) (count : ℕ) → count ≡ min (length before) (count_up_to map from)
      → after ≡ take count (made_of (λ key value. key) (reverse (up_to map from))) ++ drop count before → IsFilled (keys_down map from) before count after
  keys_filled before after count told written =
      subst (λ (rest : List ℕ). IsFilled rest before count after) keys_are (made_filled (λ key value. key) before after count told written)

-- A null handle has no keys to write.
pub nothing_down : (a : WordArray) (from room : ℕ) → a ≡ unbounded → 0 ≡ min room (count_up_to a.map from)
nothing_down a from room is =
    let most = count_up_to-le nat_cmp_total a.map from in
    let none = ap (λ (b : WordArray). len b.map) is ∙ len-empty word_order ℕ in
    let zero : count_up_to a.map from ≡ 0 = omega (arith, most, none) in
    sym (ap (min room) zero ∙ min-zero room)
