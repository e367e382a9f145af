-- Tests of words by the ends of a range.
use Rattle.std.proofs.Common.{◌≡◌, ℕ, ◌+◌, ◌-◌, ◌<◌, ◌≤◌, Bool, true, false, not, ◌&&◌, ◌||◌, max, nat_lt, nat_le, eqb, arith}
use Rattle.std.specs.Ordering.{is_lt, is_le, is_ge}
use Rattle.std.proofs.lemmas.Bool.Decides.{nat_tests}
use Rattle.judy_model.specs.Keys.{word_order}

-- ---- words that are put in

pub none_yet : (from w : ℕ) → (nat_le from w && nat_lt w from) ≡ false
none_yet from w = grind (arith, nat_tests)

pub one_more : (from word w : ℕ) → from ≤ word → ((nat_le from w && nat_lt w word) || eqb w word) ≡ (nat_le from w && nat_lt w (word + 1))
one_more from word w low = grind (arith, nat_tests)

pub all_below : (from word end w : ℕ) → from ≤ word → word ≤ max from end → end ≤ word → (nat_le from w && nat_lt w word) ≡ (nat_le from w && nat_lt w end)
all_below from word end w low high past = grind (arith, nat_tests)

pub up_to : (from to w : ℕ) → from ≤ to → ((nat_le from w && nat_lt w to) || eqb w to) ≡ (nat_le from w && nat_le w to)
up_to from to w low = grind (arith, nat_tests)

-- ---- those that are no keys, a key at a time

pub pass_key : (at to key w : ℕ) (held : Bool) → at ≤ key → key ≤ to → (at ≤ w → w < key → held ≡ false) → (w ≡ key → held ≡ true) →
    ((nat_le at w && nat_lt w key) || ((nat_le (key + 1) w && nat_le w to) && not held)) ≡ ((nat_le at w && nat_le w to) && not held)
pass_key at to key w true low high none here = grind (arith, nat_tests)
pass_key at to key w false low high none here = grind (arith, nat_tests)

pub last_key : (at to w : ℕ) (held : Bool) → at ≤ to → (at ≤ w → w < to → held ≡ false) → (w ≡ to → held ≡ true) → (nat_le at w && nat_lt w to) ≡ ((nat_le at w && nat_le w to) && not held)
last_key at to w true low none here = grind (arith, nat_tests)
last_key at to w false low none here = grind (arith, nat_tests)

pub no_key : (at to w : ℕ) (held : Bool) → (at ≤ w → w ≤ to → held ≡ false) → (nat_le at w && nat_le w to) ≡ ((nat_le at w && nat_le w to) && not held)
no_key at to w true none = grind (arith, nat_tests)
no_key at to w false none = grind (arith, nat_tests)

-- ---- keys on either side

pub within_all : (key top : ℕ) → key ≤ top → (is_le (word_order 0 key) && is_le (word_order key top)) ≡ true
within_all key top low = grind (arith, nat_tests)

pub not_below : (at key : ℕ) → 0 < at → not (is_le (word_order 0 key) && is_le (word_order key (at - 1))) ≡ is_ge (word_order key at)
not_below at key some = grind (arith, nat_tests)

pub not_above : (at key top : ℕ) → key ≤ top → not (is_le (word_order (at + 1) key) && is_le (word_order key top)) ≡ (is_le (word_order 0 key) && is_le (word_order key at))
not_above at key top low = grind (arith, nat_tests)

pub both_ends : (from to key : ℕ) → (is_ge (word_order key from) && (is_le (word_order 0 key) && is_le (word_order key to))) ≡ (is_le (word_order from key) && is_le (word_order key to))
both_ends from to key = grind (arith, nat_tests)

pub from_zero : (key : ℕ) → is_ge (word_order key 0) ≡ true
from_zero key = grind (arith, nat_tests)

-- ---- words on either side of a range, and in it

pub isnt_lt : (left right : ℕ) → right ≤ left → is_lt (word_order left right) ≡ false
isnt_lt left right past = grind (arith, nat_tests)

pub is_in : (from to w : ℕ) → from ≤ w → w ≤ to → (nat_le from w && nat_le w to) ≡ true
is_in from to w up down = grind (arith, nat_tests)

pub isnt_low : (from to w : ℕ) → to < w → (nat_le from w && nat_le w to) ≡ false
isnt_low from to w past = grind (arith, nat_tests)

pub isnt_up : (from to w : ℕ) → w < from → (nat_le from w && nat_le w to) ≡ false
isnt_up from to w under = grind (arith, nat_tests)
