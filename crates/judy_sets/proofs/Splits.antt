-- The two parts of a map on either side of a key.
use Rattle.std.proofs.Common.{◌≡◌, ℕ, ◌≤◌, ◌<◌, ⊎_elim, not, ◌&&◌, Bool, true, false, cond, Option, None, refl, sym, ap, ◌∙◌}
use Rattle.std.proofs.lemmas.Bool.{le-ltb}
use Rattle.std.specs.Ordering.{is_lt, is_le, is_ge}
use Rattle.std.specs.FinMap.{get}
use Rattle.judy_model.specs.Keys.{word_order}
use Rattle.judy_model.specs.Ranges.{within, outside, below, from_on}
use Rattle.judy_model.proofs.lemmas.orders.WordOrder.{is_lt_word, is_le_word, is_ge_word, lt_word, le_word}
use Rattle.judy_sets.specs.Pages.{AreWords}
use Rattle.judy_sets.proofs.MapLaws.{Words, same_words, get-part}
use Rattle.judy_sets.proofs.RangeFacts.{get-within, get-outside}
use Rattle.judy_sets.proofs.RangePuts.{two_ways, above, no_key}

abbrev none : Option ℕ
none = None

off : (b : Bool) → cond b none none ≡ none
off true = refl
off false = refl

pub get-below : (map : Words) (at key : ℕ) → get (below map at) key ≡ cond (is_lt (word_order key at)) (get map key) None
unfolding below
get-below map at key = get-part map (λ k. is_lt (word_order k at)) key

pub get-from_on : (map : Words) (at key : ℕ) → get (from_on map at) key ≡ cond (is_ge (word_order key at)) (get map key) None
unfolding from_on
get-from_on map at key = get-part map (λ k. is_ge (word_order k at)) key

-- A key that is there isn't above the greatest word.
pub at_most : (map : Words) (key : ℕ) (b c : Bool) → AreWords map → (key ≤ 18446744073709551615 → b ≡ c) → cond b (get map key) None ≡ cond c (get map key) None
at_most map key b c words same = ⊎_elim
    (λ (low : key ≤ 18446744073709551615). ap (λ t. cond t (get map key) None) (same low))
    (λ (high : 18446744073709551615 < key).
    let gone = no_key map key words high in
    ap (λ (o : Option ℕ). cond b o None) gone ∙ off b ∙ sym (ap (λ (o : Option ℕ). cond c o None) gone ∙ off c))
    (two_ways key 18446744073709551615)

both_on : (a b : Bool) → b ≡ true → (a && b) ≡ a
both_on true b is = is
both_on false b is = refl

pub from_on_is : (map : Words) (at : ℕ) → AreWords map → within map at 18446744073709551615 ≡ from_on map at
from_on_is map at words = same_words _ _ (λ key.
    get-within at 18446744073709551615 map key
    ∙ at_most map key _ (is_ge (word_order key at)) words (λ low. both_on _ _ (le_word key 18446744073709551615 low) ∙ is_le_word at key ∙ sym (is_ge_word key at))
    ∙ sym (get-from_on map at key))

not_from : (at key : ℕ) → not (is_le (word_order at key)) ≡ is_lt (word_order key at)
not_from at key = ⊎_elim
    (λ (low : at ≤ key). ap not (le_word at key low) ∙ sym (is_lt_word key at ∙ le-ltb key at low))
    (λ (high : key < at). ap not (above at key high) ∙ sym (lt_word key at high))
    (two_ways at key)

pub below_is : (map : Words) (at : ℕ) → AreWords map → outside map at 18446744073709551615 ≡ below map at
below_is map at words = same_words _ _ (λ key.
    get-outside at 18446744073709551615 map key
    ∙ at_most map key _ (is_lt (word_order key at)) words (λ low. ap not (both_on _ _ (le_word key 18446744073709551615 low)) ∙ not_from at key)
    ∙ sym (get-below map at key))
