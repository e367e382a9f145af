-- The search among the entries of the first level, and what the entry that it chooses tells.
use Rattle.std.proofs.Common.{◌≡◌, ◌≢◌, ℕ, suc, ◌+◌, ◌-◌, ◌<◌, ◌≤◌, ◌⊎◌, ⊎_elim, List, None, Some, unwrap_or, sym, ap, ◌∙◌, arith}
use Rattle.std.specs.Cmp.{nat_cmp_total}
use Rattle.std.specs.FinMap.{FinMap, keys, len}
use Rattle.std.proofs.lemmas.Option.{slice_get_cases, none-some}
use Rattle.judy_model.specs.Keys.{word_order, byte_order}
use Rattle.judy_model.specs.Counts.{nth, by_count}
use Rattle.judy_model.proofs.lemmas.maps.KeysLemmas.{length-keys}
use Rattle.judy_model.proofs.lemmas.queries.CountsLemmas.{by_count_none}
use Rattle.judy_model.proofs.lemmas.queries.RankLemmas.{nth-slice_get, by_count-suc, by_count-nth}
use Rattle.judy_model.proofs.lemmas.maps.TableLemmas.{byte_order_total, byte_order_same}
use Rattle.judy_sl.specs.declared.nth.Mark.{Mark}
use Rattle.judy_sl.specs.Nth.{before_entry}
use Rattle.judy_sl.specs.Scans.{value_found}

-- ---- the entry at a place of a level

pub place_some : (words : FinMap word_order ℕ) (place : ℕ) → place < len words → by_count words (place + 1) ≡ None → ⊥
place_some words place within none = ⊎_elim
    (λ some. none-some some.0 (sym (sym (by_count-suc nat_cmp_total words place) ∙ ap (by_count words) (let e : suc place ≡ place + 1 = omega arith in e) ∙ none) ∙ some.2))
    (λ past. let long = length-keys words in let never : ⊥ = omega (arith, long) in never)
    (slice_get_cases (keys words) place).1

pub place_at : (words : FinMap word_order ℕ) (place piece : ℕ) → by_count words (place + 1) ≡ Some piece → nth words place ≡ Some piece
place_at words place piece at =
    nth-slice_get nat_cmp_total words place ∙ sym (by_count-suc nat_cmp_total words place) ∙ ap (by_count words) (let e : suc place ≡ place + 1 = omega arith in e) ∙ at

-- The key at a place is the one behind it, counted from 1.
pub nth_counted : (all : FinMap byte_order ℕ) (n : ℕ) → n ≢ 0 → (key : List ℕ) → nth all (n - 1) ≡ Some key → by_count all n ≡ Some key
nth_counted all n some key at = ap (by_count all) (let e : n ≡ suc (n - 1) = omega arith in e) ∙ by_count-nth byte_order_total all (n - 1) ∙ at

-- For 0 and above the number of keys there is none.
pub none_counted : (all : FinMap byte_order ℕ) (n : ℕ) → (n ≡ 0) ⊎ (len all < n) → by_count all n ≡ None
none_counted all n outside = (by_count_none byte_order_total byte_order_same all n).1 outside

pub nth_none : (all : FinMap byte_order ℕ) (n : ℕ) (key : List ℕ) → (n ≡ 0) ⊎ (len all < n) → (key ≡ unwrap_or (by_count all n) key) × (None ≡ value_found all (by_count all n))
nth_none all n key outside = let none = none_counted all n outside in
    (ap (λ found. unwrap_or found key) (sym none), ap (value_found all) (sym none))

-- ---- the search

-- Of two places the lower may be the one, and the higher isn't.
pub record Choosing (words sums : FinMap word_order ℕ) (most : ℕ) (low : Mark) (high : ℕ) : Type 0 where
  pub less : low.place < high
  pub within : high ≤ len words
  pub before : low.before ≡ before_entry words sums low.place
  pub passes : low.before ≤ most
  pub fails : high < len words → most < before_entry words sums high
