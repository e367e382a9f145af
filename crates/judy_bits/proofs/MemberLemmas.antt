-- What the calls on four words answer of the set that they are.
use Rattle.std.proofs.Common.{◌≡◌, ◌≢◌, ℕ, zero, suc, ◌+◌, ◌-◌, ◌*◌, ◌/◌, ◌%◌, ◌^◌, ◌<◌, ◌≤◌, ◌==◌, min, false, cond, nat_lt, List, [], ◌∷◌, length, slice_index, get_or, Some}
use Rattle.std.proofs.Common.{None, sym, refl, ap, ◌∙◌, arith, ⊎_elim, bit_and, bit_or}
use Rattle.std.specs.Int.{w64, bit_at}
use Rattle.std.specs.Int.Count.{ones}
use Rattle.std.proofs.Math.ListN.{set}
use Rattle.std.proofs.lemmas.Bool.{cases_lt, cases_order}
use Rattle.std.proofs.lemmas.List.{get_or-set_same, get_or-set_other}
use Rattle.std.proofs.lemmas.Nat.Bits.{bit_at_set_same, bit_at_set_other, bit_at_clear_same, bit_at_clear_other, bit_at-zero}
use Rattle.std.specs.List.{range_with_len}
use Rattle.std.proofs.lemmas.List.FromFn.{length-range_with_len}
use Rattle.judy_model.proofs.lemmas.queries.Places.{length-filter-le}
use Rattle.judy_bits.specs.ByteSets.{IsByteSet, has, rank, nth, next_from, prev_from, with_byte, without_byte}
use Rattle.std.proofs.lemmas.Option.{slice_get_past}
use Rattle.judy_bits.specs.BitWords.{is_set, members_of, IsSelected, IsLowestFrom, IsHighestBelow, NoneBelow}
use Rattle.judy_bits.proofs.Ranges.{chosen, chosen_none, chosen_with, chosen_without, chosen-IsByteSet, has-chosen, rank-chosen, nth-chosen, next_from-chosen}
use Rattle.judy_bits.proofs.Ranges.{next_from-chosen_none, prev_from-chosen, prev_from-chosen_none}
use Rattle.judy_bits.proofs.BitLemmas.{length-chosen_to, set_from_bit, unset_from_bit}

-- ---- how many, word by word

module _ (words : List ℕ) where
  -- How many bits are 1 in so many words, from the first on.
  in_words : ℕ → ℕ
  in_words zero = 0
  in_words (suc word) = in_words word + ones (slice_index words word % 2 ^ 64)

  length-chosen_words : (word : ℕ) → length (chosen (is_set words) 0 (64 * word)) ≡ in_words word
  unfolding in_words
  length-chosen_words zero = refl
  length-chosen_words (suc word) =
      let next : 64 * suc word ≡ 64 * word + 64 = omega arith in
      ap (λ n. length (chosen (is_set words) 0 n)) next ∙ length-chosen_to words word 64 (omega arith) ∙ ap (λ n. n + ones (slice_index words word % 2 ^ 64)) (length-chosen_words word)

  -- Those in the words below one, each word where it is below.
  words_below : (word : ℕ) → word < 4 → in_words word
      ≡ cond (nat_lt 0 word) (ones (slice_index words 0 % 2 ^ 64)) 0 + cond (nat_lt 1 word) (ones (slice_index words 1 % 2 ^ 64)) 0 + cond (nat_lt 2 word) (ones (slice_index words 2 % 2 ^ 64)) 0
  unfolding in_words
  words_below zero within = omega arith
  words_below (suc zero) within = omega arith
  words_below (suc (suc zero)) within = omega arith
  words_below (suc (suc (suc zero))) within = omega arith
  words_below (suc (suc (suc (suc word)))) within = let never : ⊥ = omega arith in absurd never

  pub length-members_of : length (members_of words) ≡ ones (slice_index words 0 % 2 ^ 64) + ones (slice_index words 1 % 2 ^ 64) + ones (slice_index words 2 % 2 ^ 64) + ones
      (slice_index words 3 % 2 ^ 64)
  unfolding members_of in_words
  length-members_of = length-chosen_words 4 ∙ omega arith

  -- The rank of a byte: the whole words below its own, and the bits below its own.
  pub rank-members_of : (byte : ℕ) → byte < 256 → rank (members_of words) byte
      ≡ cond (nat_lt 0 (byte / 64)) (ones (slice_index words 0 % 2 ^ 64)) 0 + cond (nat_lt 1 (byte / 64)) (ones (slice_index words 1 % 2 ^ 64)) 0 + cond
      (nat_lt 2 (byte / 64)) (ones (slice_index words 2 % 2 ^ 64)) 0
      + ones (slice_index words (byte / 64) % 2 ^ (byte % 64))
  unfolding members_of
  rank-members_of byte within =
      let place : byte ≡ 64 * (byte / 64) + byte % 64 = omega arith in
      rank-chosen (is_set words) 256 byte (omega arith)
      ∙ ap (λ n. length (chosen (is_set words) 0 n)) place
      ∙ length-chosen_to words (byte / 64) (byte % 64) (omega arith)
      ∙ ap (λ n. n + ones (slice_index words (byte / 64) % 2 ^ (byte % 64))) (length-chosen_words (byte / 64) ∙ words_below (byte / 64) (omega arith))

  -- There are at most 256 members.
  pub length-members_of-le : length (members_of words) ≤ 256
  unfolding members_of
  length-members_of-le = let kept = length-filter-le (is_set words) (range_with_len 0 256) in let long = length-range_with_len 0 256 in omega arith

  pub members_of-IsByteSet : IsByteSet (members_of words)
  unfolding members_of
  members_of-IsByteSet = chosen-IsByteSet (is_set words) 256 (omega arith)

  pub has-members_of : (byte : ℕ) → byte < 256 → has (members_of words) byte ≡ is_set words byte
  unfolding members_of
  has-members_of byte within = has-chosen (is_set words) 256 byte within

  -- Where the bit of a byte is the only one that changed, to 1.
  set_other : (word place value at : ℕ) → place < 64 → at ≢ 64 * word + place → word < length words
      → ((other : ℕ) → other < 64 → other ≢ place → bit_at value other ≡ bit_at (slice_index words word) other)
      → is_set (set words word value) at ≡ is_set words at
  set_other word place value at inside apart within others = ⊎_elim
      (λ same.
      let elsewhere : at % 64 ≢ place = λ e. apart (omega arith) in
      (λ t. bit_at (get_or (set words word value) (same t) 0) (at % 64) == 1)
      ∙ ap (λ n. bit_at n (at % 64) == 1) (get_or-set_same words word value 0 within)
      ∙ ap (λ bit. bit == 1) (others (at % 64) (omega arith) elsewhere)
      ∙ (λ t. bit_at (get_or words (sym same t) 0) (at % 64) == 1))
      (λ differ. ap (λ n. bit_at n (at % 64) == 1) (get_or-set_other words word (at / 64) value 0 (λ e. ⊎_elim (λ less. omega arith) (λ more. omega arith) differ)))
      (cases_order (at / 64) word)

  set_here : (word place value : ℕ) → place < 64 → word < length words → is_set (set words word value) (64 * word + place) ≡ (bit_at value place == 1)
  set_here word place value inside within =
      let which : (64 * word + place) / 64 ≡ word = omega arith in
      let where_in : (64 * word + place) % 64 ≡ place = omega arith in
      (λ t. bit_at (get_or (set words word value) (which t) 0) (where_in t) == 1) ∙ ap (λ n. bit_at n place == 1) (get_or-set_same words word value 0 within)

  module _ (byte : ℕ) (within : byte < 256) (four : length words ≡ 4) where
    here : byte ≡ 64 * (byte / 64) + byte % 64
    here = omega arith

    inside : byte % 64 < 64
    inside = omega arith

    added : ℕ
    added = bit_or (slice_index words (byte / 64)) (1 * 2 ^ (byte % 64) % 2 ^ 64)

    -- To set the bit of a byte makes it a member.
    pub members_of-add : members_of (set words (byte / 64) (bit_or (slice_index words (byte / 64)) (1 * 2 ^ (byte % 64) % 2 ^ 64))) ≡ with_byte (members_of words) byte
    unfolding members_of added
    members_of-add = chosen_with (is_set words) (is_set (set words (byte / 64) added)) 256 byte within
        (λ at apart. set_other (byte / 64) (byte % 64) added at inside (λ e. apart (omega arith)) (omega arith)
        (λ other _ differ. bit_at_set_other w64 (slice_index words (byte / 64)) (byte % 64) inside other differ))
        (ap (is_set (set words (byte / 64) added)) here ∙ set_here (byte / 64) (byte % 64) added inside (omega arith) ∙
        ap (λ bit. bit == 1) (bit_at_set_same w64 (slice_index words (byte / 64)) (byte % 64) inside))

    taken : ℕ
    taken = bit_and (slice_index words (byte / 64)) (2 ^ 64 - 1 - 1 * 2 ^ (byte % 64) % 2 ^ 64)

    -- To clear it takes the byte out.
    pub members_of-take : members_of (set words (byte / 64) (bit_and (slice_index words (byte / 64)) (2 ^ 64 - 1 - 1 * 2 ^ (byte % 64) % 2 ^ 64))) ≡ without_byte (members_of words) byte
    unfolding members_of taken
    members_of-take = chosen_without (is_set words) (is_set (set words (byte / 64) taken)) 256 byte within
        (λ at apart. set_other (byte / 64) (byte % 64) taken at inside (λ e. apart (omega arith)) (omega arith)
        (λ other low differ. bit_at_clear_other w64 (slice_index words (byte / 64)) (byte % 64) inside other low differ))
        (ap (is_set (set words (byte / 64) taken)) here ∙ set_here (byte / 64) (byte % 64) taken inside (omega arith) ∙
        ap (λ bit. bit == 1) (bit_at_clear_same w64 (slice_index words (byte / 64)) (byte % 64) inside))

  -- ---- the member at a place, and the nearest ones

  -- The member that has so many below it.
  pub nth_selected : (at word left place : ℕ) → word < 4 → length (chosen (is_set words) 0 (64 * word)) + left ≡ at → IsSelected (slice_index words word) left place →
      nth (members_of words) at ≡ Some (64 * word + place)
  unfolding members_of
  nth_selected at word left place which so_far selected =
      let inside = selected.inside in
      let rank : at ≡ length (chosen (is_set words) 0 (64 * word + place)) = sym so_far ∙ ap (λ n. length (chosen (is_set words) 0 (64 * word)) + n) (sym selected.below) ∙
      sym (length-chosen_to words word place (omega arith)) in
      ap (nth (chosen (is_set words) 0 256)) rank ∙ nth-chosen (is_set words) 256 (64 * word + place) (omega arith) (set_from_bit words word place inside selected.one)

  -- A whole word passed.
  pub chosen_past : (at word left : ℕ) → length (chosen (is_set words) 0 (64 * word)) + left ≡ at → ones (slice_index words word % 2 ^ 64) ≤ left
      → length (chosen (is_set words) 0 (64 * (word + 1))) + (left - ones (slice_index words word % 2 ^ 64)) ≡ at
  chosen_past at word left so_far past =
      let next : 64 * (word + 1) ≡ 64 * word + 64 = omega arith in
      let counted : length (chosen (is_set words) 0 (64 * (word + 1))) ≡ length (chosen (is_set words) 0 (64 * word)) + ones (slice_index words word % 2 ^ 64) = ap
      (λ n. length (chosen (is_set words) 0 n)) next ∙ length-chosen_to words word 64 (omega arith) in
      omega arith

  pub nth_past : (at : ℕ) → length (chosen (is_set words) 0 256) ≤ at → nth (members_of words) at ≡ None
  unfolding members_of
  nth_past at past = slice_get_past (chosen (is_set words) 0 256) at past

  -- No byte is a member from one number on and below another.
  abbrev pub NoneSetBefore : ℕ → ℕ → Type 0
  NoneSetBefore from end = (at : ℕ) → from ≤ at → at < end → is_set words at ≡ false

  -- No byte is a member from one number on and up to another.
  abbrev pub NoneSet : ℕ → ℕ → Type 0
  NoneSet from end = (at : ℕ) → from ≤ at → at ≤ end → is_set words at ≡ false

  in_word : (word at : ℕ) → 64 * word ≤ at → at < 64 * word + 64 → bit_at (slice_index words word) (at - 64 * word) ≡ 0 → is_set words at ≡ false
  in_word word at low high none =
      let place : at ≡ 64 * word + (at - 64 * word) = omega arith in
      ap (is_set words) place ∙ unset_from_bit words word (at - 64 * word) (omega arith) none

  -- The next member is in a word where all before it are passed.
  pub next_in_word : (byte word place : ℕ) → word < 4 → NoneSetBefore byte (64 * word) → IsLowestFrom (slice_index words word) (byte - 64 * word) place →
      next_from (members_of words) byte ≡ Some (64 * word + place)
  unfolding members_of
  next_in_word byte word place which passed found =
      let inside = found.inside in
      let after = found.not_before in
      next_from-chosen (is_set words) 256 byte (64 * word + place) (omega arith) (omega arith) (set_from_bit words word place inside found.one)
      (λ at from before. ⊎_elim
      (λ early. passed at from early)
      (λ late. in_word word at late (omega arith) (found.lowest (at - 64 * word) (omega arith) (omega arith)))
      (cases_lt at (64 * word)))

  pub next_in_none : (byte : ℕ) → NoneSetBefore byte 256 → next_from (members_of words) byte ≡ None
  unfolding members_of
  next_in_none byte passed = next_from-chosen_none (is_set words) 256 byte passed

  -- The previous member is in a word where all after it are passed.
  pub prev_in_word : (byte word place : ℕ) → byte < 256 → 64 * word ≤ byte → NoneSet (64 * word + 64) byte → IsHighestBelow (slice_index words word) (min 64 (byte + 1 - 64 * word)) place →
      prev_from (members_of words) byte ≡ Some (64 * word + place)
  unfolding members_of
  prev_in_word byte word place small which passed found =
      let inside = found.inside in
      prev_from-chosen (is_set words) 256 byte (64 * word + place) (omega arith) (omega arith) (set_from_bit words word place (omega arith) found.one)
      (λ at after upto. ⊎_elim
      (λ here. in_word word at (omega arith) here (found.highest (at - 64 * word) (omega arith) (omega arith)))
      (λ late. passed at late upto)
      (cases_lt at (64 * word + 64)))

  pub prev_past_word : (byte word : ℕ) → 64 * word ≤ byte → NoneSet (64 * word + 64) byte → NoneBelow (slice_index words word) (min 64 (byte + 1 - 64 * word)) → NoneSet (64 * word) byte
  prev_past_word byte word which passed none = λ at from upto. ⊎_elim
      (λ here. in_word word at from here (none (at - 64 * word) (omega arith)))
      (λ late. passed at late upto)
      (cases_lt at (64 * word + 64))

  pub prev_in_none : (byte : ℕ) → NoneSet 0 byte → prev_from (members_of words) byte ≡ None
  unfolding members_of
  prev_in_none byte passed = prev_from-chosen_none (is_set words) 256 byte (λ at _ upto. passed at (omega arith) upto)

-- Four words of 0 are the empty set.
pub members_of-new : members_of (0 ∷ 0 ∷ 0 ∷ 0 ∷ []) ≡ []
unfolding members_of
members_of-new = chosen_none (is_set (0 ∷ 0 ∷ 0 ∷ 0 ∷ [])) 0 256 (λ at _ _. ap (λ n. bit_at n (at % 64) == 1) (zeros (at / 64)) ∙ ap (λ bit. bit == 1) (bit_at-zero (at % 64)))
  where
    zeros : (at : ℕ) → ◌≡◌ {A = ℕ} (get_or (0 ∷ 0 ∷ 0 ∷ 0 ∷ []) at 0) 0
    zeros zero = refl
    zeros (suc zero) = refl
    zeros (suc (suc zero)) = refl
    zeros (suc (suc (suc zero))) = refl
    zeros (suc (suc (suc (suc at)))) = refl
