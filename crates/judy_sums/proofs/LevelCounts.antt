-- Counts over a level: its keys, entry by entry, as the sums that a list of sums tells.
use Rattle.std.proofs.Common.{◌≡◌, ℕ, ◌+◌, ◌-◌, Bool, true, false, cond, nat_lt, List, [], ◌∷◌, map, length, filter, refl, ap, ◌∙◌, arith, is_lt}
use Rattle.std.specs.List.{sum_by}
use Rattle.std.specs.FinMap.{FinMap, entries}
use Rattle.std.proofs.lemmas.List.Sums.{sum_by-cons}
use Rattle.judy_model.specs.Keys.{word_order}
use Rattle.judy_model.specs.Counts.{rank}
use Rattle.judy_model.proofs.lemmas.orders.WordOrder.{is_lt_word}
use Rattle.judy_sums.specs.Pairs.{Pairs, sum_of, sum_below, part_below}
use Rattle.judy_sums.specs.Levels.{entries_below, extras, AreWeighed, keys_below}

entries_less : (level : Pairs) (word : ℕ) → length (filter (λ other. is_lt (word_order other word)) (map (λ entry. entry.0) level)) ≡ entries_below level word
entries_less [] word = refl
entries_less (entry ∷ rest) word =
    let sum = sum_by-cons (λ (one : ℕ × ℕ). cond (nat_lt one.0 word) 1 0) entry rest in
    let later = entries_less rest word in
    let words = map (λ (one : ℕ × ℕ). one.0) rest in
    let less : List ℕ = filter (λ other. is_lt (word_order other word)) words in
    ap (λ b. length (cond b (entry.0 ∷ less) less)) (is_lt_word entry.0 word)
    ∙ elim (nat_lt entry.0 word) as (λ b. entries_below (entry ∷ rest) word ≡ cond b 1 0 + entries_below rest word → length (cond b (entry.0 ∷ less) less) ≡ entries_below (entry ∷ rest) word) [
      | true ↦ λ e. omega arith
      | false ↦ λ e. omega arith
    ] sum

-- The entries below a word are as many as its rank among the words.
pub entries_below_is : (words : FinMap word_order ℕ) (word : ℕ) → rank words word ≡ entries_below (entries words) word
unfolding rank
entries_below_is words word = entries_less (entries words) word

module _ (leads : ℕ × ℕ → Bool) (behind : ℕ × ℕ → ℕ) where
  one_below : (entry : ℕ × ℕ) (rest : Pairs) (word : ℕ) → AreWeighed leads behind (entry ∷ rest)
      → sum_below (extras leads behind (entry ∷ rest)) word + cond (nat_lt entry.0 word) 1 0 ≡ cond (nat_lt entry.0 word) (behind entry) 0 + sum_below (extras leads behind rest) word
  one_below entry rest word weighed =
      let some = weighed.0.0 in
      let alone = weighed.0.1 in
      elim (leads entry) as (λ b. (b ≡ false → behind entry ≡ 1) → sum_below (cond b ((entry.0, behind entry - 1) ∷ extras leads behind rest) (extras leads behind rest)) word + cond
      (nat_lt entry.0 word) 1 0
      ≡ cond (nat_lt entry.0 word) (behind entry) 0 + sum_below (extras leads behind rest) word) [
        | true ↦ λ _. let first = sum_by-cons (part_below word) (entry.0, behind entry - 1) (extras leads behind rest) in
            elim (nat_lt entry.0 word) as (λ b. sum_below ((entry.0, behind entry - 1) ∷ extras leads behind rest) word ≡ cond b (behind entry - 1) 0 + sum_below (extras leads behind rest) word
            → sum_below ((entry.0, behind entry - 1) ∷ extras leads behind rest) word + cond b 1 0 ≡ cond b (behind entry) 0 + sum_below (extras leads behind rest) word) [
              | true ↦ λ e. omega arith
              | false ↦ λ e. omega arith
            ] first
        | false ↦ λ one. let is = one refl in elim (nat_lt entry.0 word) as (λ b. sum_below (extras leads behind rest) word + cond b 1 0 ≡
            cond b (behind entry) 0 + sum_below (extras leads behind rest) word) [
              | true ↦ omega arith
              | false ↦ omega arith
            ]
      ] alone

  -- The keys below a word are the entries below it and the sum below it.
  pub keys_below_is : (entries : Pairs) (word : ℕ) → AreWeighed leads behind entries → keys_below behind entries word ≡ entries_below entries word + sum_below (extras leads behind entries) word
  keys_below_is [] word weighed = refl
  keys_below_is (entry ∷ rest) word weighed =
      let keys = sum_by-cons (λ (one : ℕ × ℕ). cond (nat_lt one.0 word) (behind one) 0) entry rest in
      let entries = sum_by-cons (λ (one : ℕ × ℕ). cond (nat_lt one.0 word) 1 0) entry rest in
      let later = keys_below_is rest word weighed.1 in
      let here = one_below entry rest word weighed in
      omega arith

  one_of : (entry : ℕ × ℕ) (rest : Pairs) → AreWeighed leads behind (entry ∷ rest) → sum_of (extras leads behind (entry ∷ rest)) + 1 ≡ behind entry + sum_of (extras leads behind rest)
  one_of entry rest weighed =
      let some = weighed.0.0 in
      elim (leads entry) as (λ b. (b ≡ false → behind entry ≡ 1) → sum_of (cond b ((entry.0, behind entry - 1) ∷ extras leads behind rest) (extras leads behind rest)) + 1 ≡
      behind entry + sum_of (extras leads behind rest)) [
        | true ↦ λ _. let first = sum_by-cons (λ (pair : ℕ × ℕ). pair.1) (entry.0, behind entry - 1) (extras leads behind rest) in omega arith
        | false ↦ λ one. let is = one refl in omega arith
      ] weighed.0.1

  -- All keys are all entries and the sum of all.
  pub keys_are : (entries : Pairs) → AreWeighed leads behind entries → sum_by behind entries ≡ length entries + sum_of (extras leads behind entries)
  keys_are [] weighed = refl
  keys_are (entry ∷ rest) weighed =
      let keys = sum_by-cons behind entry rest in
      let later = keys_are rest weighed.1 in
      let here = one_of entry rest weighed in
      omega arith
