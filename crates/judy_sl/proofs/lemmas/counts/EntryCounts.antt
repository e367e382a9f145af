-- The keys behind the entries of a level whose words are less than one, entry by entry.
use Rattle.std.proofs.Common.{◌≡◌, ℕ, ◌+◌, ◌<◌, ◌≤◌, suc, ⊎_elim, cond, nat_lt, List, [], ◌∷◌, length, take, ap, ◌∙◌, refl, arith}
use Rattle.std.specs.List.{flat_map}
use Rattle.std.proofs.lemmas.Bool.{lt-ltb, le-ltb, cases_lt}
use Rattle.std.proofs.lemmas.List.{length-append}
use Rattle.std.proofs.lemmas.List.Sums.{sum_by-cons}
use Rattle.judy_model.specs.Keys.{word_order}
use Rattle.judy_model.proofs.lemmas.maps.Pairs.{rest_sorted}
use Rattle.judy_sums.specs.Pairs.{Pairs}
use Rattle.judy_sums.specs.Chunks.{AllFrom, Ascends}
use Rattle.judy_sums.specs.Levels.{entries_below, keys_below, part_len}
use Rattle.judy_sums.proofs.PairLemmas.{from_first}

module _ (behind : ℕ × ℕ → ℕ) (word : ℕ) where
  below_one : (entry : ℕ × ℕ) (rest : Pairs) → keys_below behind (entry ∷ rest) word ≡ cond (nat_lt entry.0 word) (behind entry) 0 + keys_below behind rest word
  below_one entry rest = sum_by-cons (λ (one : ℕ × ℕ). cond (nat_lt one.0 word) (behind one) 0) entry rest

  -- An entry with a lesser word adds its keys.
  pub below_less : (entry : ℕ × ℕ) (rest : Pairs) → entry.0 < word → keys_below behind (entry ∷ rest) word ≡ behind entry + keys_below behind rest word
  below_less entry rest less = below_one entry rest ∙ ap (λ b. cond b (behind entry) 0 + keys_below behind rest word) (lt-ltb entry.0 word less)

  below_none : (entries : Pairs) → AllFrom entries word → keys_below behind entries word ≡ 0
  below_none [] from = refl
  below_none (entry ∷ rest) from =
      let sum = below_one entry rest in
      let here = ap (λ b. cond b (behind entry) 0) (le-ltb entry.0 word from.0) in
      let later = below_none rest from.1 in
      omega arith

  -- From an entry on whose word isn't less there are none.
  pub below_past : (entry : ℕ × ℕ) (rest : Pairs) → Ascends (entry ∷ rest) → word ≤ entry.0 → keys_below behind (entry ∷ rest) word ≡ 0
  below_past entry rest ascend most = below_none (entry ∷ rest) (from_first entry rest word ascend most)

-- Those keys stand behind as many entries at the front as have lesser words.
pub below_front : {K : Type 0} (part : ℕ × ℕ → List K) (word : ℕ) (entries : Pairs) → Ascends entries →
    keys_below (part_len part) entries word ≡ length (flat_map part (take (entries_below entries word) entries))
below_front part word [] ascend = refl
below_front part word (entry ∷ rest) ascend = ⊎_elim
    (λ (less : entry.0 < word).
    let count : entries_below (entry ∷ rest) word ≡ suc (entries_below rest word) = (let one = below_less (λ (other : ℕ × ℕ). 1) word entry rest less in omega arith) in
    let keys = below_less (part_len part) word entry rest less in
    let later = below_front part word rest (rest_sorted word_order entry rest ascend) in
    let front = ap (λ n. length (flat_map part (take n (entry ∷ rest)))) count in
    let long = length-append (part entry) (flat_map part (take (entries_below rest word) rest)) in
    omega arith)
    (λ (most : word ≤ entry.0).
    let none = below_past (λ (other : ℕ × ℕ). 1) word entry rest ascend most in
    let keys = below_past (part_len part) word entry rest ascend most in
    let front = ap (λ n. length (flat_map part (take n (entry ∷ rest)))) none in
    omega arith)
    (cases_lt entry.0 word)
