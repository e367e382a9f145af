-- What an array has as words are put in, and what a set has that a range is put into, or turned round in.
use Rattle.std.proofs.Common.{◌≡◌, ℕ, suc, ◌+◌, ◌-◌, ◌<◌, ◌≤◌, ◌⊎◌, inl, inr, Bool, true, false, cond, not, ◌&&◌, ◌||◌, Option, Some, None, All, IsTrue, ◌↔◌, eqb}
use Rattle.std.proofs.Common.{refl, sym, ap, ◌∙◌, arith}
use Rattle.std.specs.Ordering.{is_lt}
use Rattle.std.specs.Option.{option_or}
use Rattle.std.specs.Cmp.{unsigned_tied}
use Rattle.std.specs.FinMap.{get, contains_key, len, values, empty, get-empty}
use Rattle.judy_model.specs.Keys.{word_order}
use Rattle.judy_model.specs.Arrays.{ArrayOf, with_map}
use Rattle.judy_model.specs.Counts.{count}
use Rattle.judy_model.proofs.lemmas.maps.ValuesLemmas.{value_from_All}
use Rattle.judy_model.proofs.lemmas.orders.WordOrder.{lt_word}
use Rattle.judy_laws.proofs.lemmas.WordRanges.{empties_and_keys, filled_counts, flipped_counts, filled_within, filled_elsewhere, flipped_within, flipped_elsewhere}
use Rattle.judy_word.specs.Held.{with_new}
use Rattle.judy_sets.specs.Fills.{IsAdded, IsBelowPut, IsAbovePut}
use Rattle.judy_sets.specs.RangeWords.{changed, is_put, IsWordsPut}
use Rattle.judy_sets.proofs.FillFacts.{then_added, added_alike, get-with_new}
use Rattle.judy_sets.proofs.MapLaws.{Words, same_words}
use Rattle.judy_sets.proofs.RangeFacts.{count-within, within-most}
use Rattle.judy_sets.proofs.RangePuts.{all_zero, two_ways}
use Rattle.judy_sets.proofs.RangeTests.{isnt_lt, is_in, isnt_low, isnt_up}

or_none : (o : Option ℕ) → option_or o None ≡ o
or_none None = refl
or_none (Some v) = refl

-- ---- words put in

pub no_words : (before : ArrayOf word_order) (test : ℕ → Bool) → ((word : ℕ) → test word ≡ false) → IsWordsPut before before test
no_words before test none = record {
  limit = refl;
  map = λ word. sym (ap (λ b. option_or (get before.map word) (cond b (Some 0) None)) (none word) ∙ or_none (get before.map word));
}

pub one_word : (before after : ArrayOf word_order) (word : ℕ) → after ≡ with_map before (with_new before.map word 0) → IsWordsPut before after (λ other. eqb other word)
one_word before after word is = record {
  limit = ap (λ (a : ArrayOf word_order). a.limit) is;
  map = λ other. ap (λ (a : ArrayOf word_order). get a.map other) is
      ∙ get-with_new before.map word 0 other
      ∙ ap (λ b. option_or (get before.map other) (cond b (Some 0) None)) (unsigned_tied other word);
}

pub words_alike : (before after : ArrayOf word_order) (one other : ℕ → Bool) → ((word : ℕ) → one word ≡ other word) → IsWordsPut before after one → IsWordsPut before after other
words_alike before after one other same put = added_alike 0 before after _ _ (λ word. ap (λ b. cond b (Some 0) None) (same word)) put

-- Those of one test, and then those of another.
either : (a b : Bool) → option_or {T = ℕ} (cond a (Some 0) None) (cond b (Some 0) None) ≡ cond (a || b) (Some 0) None
either true b = refl
either false b = refl

pub words_join : (before old new : ArrayOf word_order) (one other all : ℕ → Bool) → ((word : ℕ) → (one word || other word) ≡ all word) → IsWordsPut before old one → IsWordsPut old new other
    → IsWordsPut before new all
words_join before old new one other all same first more =
    added_alike 0 before new _ _ (λ word. either (one word) (other word) ∙ ap (λ b. cond b (Some 0) None) (same word)) (then_added 0 before old new _ _ first more)

-- ---- how many keys there are then

pub changed_counts : (turned : Bool) (set : Words) (from to keys stay : ℕ) → from ≤ to → keys ≡ count set from to → stay ≡ len set - cond turned keys 0 →
    len (changed turned set from to) ≡ stay + (suc (to - from) - keys)
changed_counts false set from to keys stay order counted left =
    let all = filled_counts set from to in
    let both = empties_and_keys set from to in
    omega (arith, order, counted, left, all, both)
changed_counts true set from to keys stay order counted left =
    let all = flipped_counts set from to in
    let both = empties_and_keys set from to in
    let within = count-within from to set in
    let most = within-most from to set in
    omega (arith, order, counted, left, all, both, within, most)

pub share_most : (b : Bool) (n : ℕ) → cond b n 0 ≤ n
share_most true n = omega arith
share_most false n = omega arith

pub not_over : (over : Bool) (limit count : ℕ) → IsTrue over ↔ (limit < count) → over ≡ false → count ≤ limit
not_over over limit count told is = by (two_ways count limit)
  where
    by : (count ≤ limit) ⊎ (limit < count) → count ≤ limit
    by (inl few) = few
    by (inr more) = absurd (let never = sym is ∙ told.1 more in cc)

-- ---- what there is at a key

-- Each value is 0.
abbrev pub Zeros : Words → Type 0
Zeros set = All (λ value. value ≡ 0) (values set)

filled_here : (ours : Option ℕ) → ((v : ℕ) → ours ≡ Some v → v ≡ 0) → option_or ours (Some 0) ≡ Some 0
filled_here None zero = refl
filled_here (Some v) zero = ap Some (zero v refl)

turned_here : (held : Bool) → cond held None (Some 0) ≡ cond {A = Option ℕ} (not held) (Some 0) None
turned_here true = refl
turned_here false = refl

pub changed_inside : (turned : Bool) (set : Words) (from to word : ℕ) → Zeros set → from ≤ word → word ≤ to →
    get (changed turned set from to) word ≡ cond (not (turned && contains_key set word)) (Some 0) None
changed_inside false set from to word zeros low high =
    filled_within set from to word low high ∙ filled_here (get set word) (λ v is. value_from_All (λ value. value ≡ 0) set word v zeros is)
changed_inside true set from to word zeros low high = flipped_within set from to word low high ∙ turned_here (contains_key set word)

pub changed_outside : (turned : Bool) (set : Words) (from to word : ℕ) → (word < from) ⊎ (to < word) → get (changed turned set from to) word ≡ get set word
changed_outside false set from to word past = filled_elsewhere set from to word past
changed_outside true set from to word past = flipped_elsewhere set from to word past

-- Where the range has no words nothing changes.
pub changed_none : (turned : Bool) (set : Words) (from to : ℕ) → to < from → changed turned set from to ≡ set
changed_none turned set from to reverse = same_words _ _ (λ word. changed_outside turned set from to word (beside word (two_ways from word)))
  where
    beside : (word : ℕ) → (from ≤ word) ⊎ (word < from) → (word < from) ⊎ (to < word)
    beside word (inl up) = inr (omega (arith, up, reverse))
    beside word (inr low) = inl low

-- ---- the keys below a range, what comes there, and those above it

module _ (turned : Bool) (set : Words) (from to : ℕ) (order : from ≤ to) (zeros : Zeros set) where
  abbrev low : ℕ → Option ℕ
  low word = cond (is_lt (word_order word from)) (get set word) None

  abbrev high : ℕ → Option ℕ
  high word = cond (is_lt (word_order to word)) (get set word) None

  abbrev comes : ℕ → Option ℕ
  comes word = cond (is_put turned set from to word) (Some 0) None

  at : (word : ℕ) → (from ≤ word) ⊎ (word < from) → (word ≤ to) ⊎ (to < word) → option_or (option_or (low word) (comes word)) (high word) ≡ get (changed turned set from to) word
  at word (inl up) (inl down) =
      (λ t. option_or (option_or (cond (isnt_lt word from up t) (get set word) None) (cond (is_in from to word up down t && not (turned && contains_key set word)) (Some 0) None))
      (cond (isnt_lt to word down t) (get set word) None))
      ∙ or_none (cond (not (turned && contains_key set word)) (Some 0) None)
      ∙ sym (changed_inside turned set from to word zeros up down)
  at word (inl up) (inr past) =
      (λ t. option_or (option_or (cond (isnt_lt word from up t) (get set word) None) (cond (isnt_low from to word past t && not (turned && contains_key set word)) (Some 0) None))
      (cond (lt_word to word past t) (get set word) None))
      ∙ sym (changed_outside turned set from to word (inr past))
  at word (inr under) (inl down) =
      (λ t. option_or (option_or (cond (lt_word word from under t) (get set word) None) (cond (isnt_up from to word under t && not (turned && contains_key set word)) (Some 0) None))
      (cond (isnt_lt to word down t) (get set word) None))
      ∙ or_none (option_or (get set word) None)
      ∙ or_none (get set word)
      ∙ sym (changed_outside turned set from to word (inl under))
  at word (inr under) (inr past) = absurd (omega (arith, under, past, order))

  part : (test : ℕ → Bool) (word v : ℕ) → cond (test word) (get set word) None ≡ Some v → get set word ≡ Some v
  part test word v is = held (test word) is
    where
      held : (b : Bool) → cond b (get set word) None ≡ Some v → get set word ≡ Some v
      held true is = is
      held false is = absurd cc

  pub changed_put : (words : ℕ) (before first middle after : ArrayOf word_order) → IsBelowPut words before first set from → IsWordsPut first middle (is_put turned set from to)
      → IsAbovePut words middle after set to → IsAdded before after (get (changed turned set from to))
  changed_put words before first middle after one two three = added_alike 0 before after _ _ (λ word.
      (λ t. option_or (option_or (all_zero words set low (λ _. zeros) (part (λ w. is_lt (word_order w from))) word t) (comes word))
      (all_zero words set high (λ _. zeros) (part (λ w. is_lt (word_order to w))) word t))
      ∙ at word (two_ways from word) (two_ways word to))
      (then_added 0 before middle after _ _ (then_added 0 before first middle _ _ one two) three)

-- A new array to which a map is added is that map.
pub new_is : (before after : ArrayOf word_order) (map : Words) → before.map ≡ empty → IsAdded before after (get map) → after.map ≡ map
new_is before after map new put = same_words after.map map (λ key.
    put.map key ∙ ap (λ (m : Words). option_or (get m key) (get map key)) new ∙ ap (λ (o : Option ℕ). option_or o (get map key)) (get-empty word_order key))
