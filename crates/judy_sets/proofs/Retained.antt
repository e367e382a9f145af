-- What a map keeps, of whose keys those below a word went, and those above another.
use Rattle.std.proofs.Common.{◌≡◌, ℕ, ◌+◌, ◌-◌, ◌<◌, ◌≤◌, Bool, true, false, cond, ◌&&◌, Option, None, refl, sym, ap, ◌∙◌, arith}
use Rattle.std.specs.Ordering.{is_le, is_ge}
use Rattle.std.specs.FinMap.{get}
use Rattle.judy_model.specs.Keys.{word_order}
use Rattle.judy_model.specs.Ranges.{within, outside, from_on}
use Rattle.judy_sets.specs.Pages.{AreWords}
use Rattle.judy_sets.proofs.MapLaws.{Words, same_words}
use Rattle.judy_sets.proofs.RangeFacts.{get-within, get-outside}
use Rattle.judy_sets.proofs.Splits.{get-from_on, at_most}
use Rattle.judy_sets.proofs.RangeTests.{within_all, not_below, not_above, both_ends, from_zero}

-- Those at or above a word.
pub from_all : (map : Words) (at : ℕ) → at ≤ 0 → map ≡ from_on map at
from_all map at zero = same_words map (from_on map at) (λ key.
    let none : at ≡ 0 = omega (arith, zero) in
    sym (get-from_on map at key ∙ ap (λ (n : ℕ). cond (is_ge (word_order key n)) (get map key) None) none ∙ ap (λ b. cond b (get map key) None) (from_zero key)))

pub from_is : (map : Words) (at : ℕ) → 0 < at → outside map 0 (at - 1) ≡ from_on map at
from_is map at some = same_words _ _ (λ key.
    get-outside 0 (at - 1) map key ∙ ap (λ b. cond b (get map key) None) (not_below at key some) ∙ sym (get-from_on map at key))

-- Those at or below one.
pub to_all : (map : Words) (at : ℕ) → AreWords map → 18446744073709551615 ≤ at → map ≡ within map 0 at
to_all map at words last = same_words map (within map 0 at) (λ key.
    at_most map key true (is_le (word_order 0 key) && is_le (word_order key at)) words (λ low. sym (within_all key at (omega (arith, low, last))))
    ∙ sym (get-within 0 at map key))

pub to_is : (map : Words) (at : ℕ) → AreWords map → outside map (at + 1) 18446744073709551615 ≡ within map 0 at
to_is map at words = same_words _ _ (λ key.
    get-outside (at + 1) 18446744073709551615 map key
    ∙ at_most map key _ (is_le (word_order 0 key) && is_le (word_order key at)) words (λ low. not_above at key 18446744073709551615 low)
    ∙ sym (get-within 0 at map key))

-- Those at or above the one, and of these the ones at or below the other.
nested : (a b : Bool) (held : Option ℕ) → cond b (cond a held None) None ≡ cond (a && b) held None
nested true b held = refl
nested false true held = refl
nested false false held = refl

pub both_sides : (map : Words) (from to : ℕ) → within (from_on map from) 0 to ≡ within map from to
both_sides map from to = same_words _ _ (λ key.
    get-within 0 to (from_on map from) key
    ∙ ap (λ (o : Option ℕ). cond (is_le (word_order 0 key) && is_le (word_order key to)) o None) (get-from_on map from key)
    ∙ nested (is_ge (word_order key from)) (is_le (word_order 0 key) && is_le (word_order key to)) (get map key)
    ∙ ap (λ b. cond b (get map key) None) (both_ends from to key)
    ∙ sym (get-within from to map key))
