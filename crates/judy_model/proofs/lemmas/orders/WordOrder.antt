-- The order of words, as numbers have it, and each number's place in it.
use Rattle.std.proofs.Common.{◌≡◌, ℕ, ◌<◌, ◌≤◌, true, nat_lt, nat_le, arith, ltb-true, lt-ltb, leb-true, le-leb, sym, ◌∙◌, Less, nat_cmp, is_lt, is_le, is_gt, is_ge}
use Rattle.std.specs.Cmp.{nat_cmp_is}
use Rattle.std.proofs.lemmas.Bool.Decides.{nat_tests}

-- One word is before another where it is less.
pub is_lt_word : (left right : ℕ) → is_lt (nat_cmp left right) ≡ nat_lt left right
is_lt_word left right = grind (arith, nat_tests)

-- It is at or before it where it is at most.
pub is_le_word : (left right : ℕ) → is_le (nat_cmp left right) ≡ nat_le left right
is_le_word left right = grind (arith, nat_tests)

-- It is after it where it is more.
pub is_gt_word : (left right : ℕ) → is_gt (nat_cmp left right) ≡ nat_lt right left
is_gt_word left right = grind (arith, nat_tests)

-- It is at or after it where it is at least.
pub is_ge_word : (left right : ℕ) → is_ge (nat_cmp left right) ≡ nat_le right left
is_ge_word left right = grind (arith, nat_tests)

-- Of the lesser and the greater of two words the order answers `Less`.
pub less_word : (left right : ℕ) → left < right → nat_cmp left right ≡ Less
less_word left right below = sym (nat_cmp_is left right Less below)

-- A lesser word is before a greater one.
pub lt_word : (left right : ℕ) → left < right → is_lt (nat_cmp left right) ≡ true
lt_word left right below = is_lt_word left right ∙ lt-ltb left right below

-- The way back.
pub lt_from_word : (left right : ℕ) → is_lt (nat_cmp left right) ≡ true → left < right
lt_from_word left right before = ltb-true left right (sym (is_lt_word left right) ∙ before)

-- A word that is at most another is at or before it.
pub le_word : (left right : ℕ) → left ≤ right → is_le (nat_cmp left right) ≡ true
le_word left right below = is_le_word left right ∙ le-leb left right below

-- The way back.
pub le_from_word : (left right : ℕ) → is_le (nat_cmp left right) ≡ true → left ≤ right
le_from_word left right before = leb-true left right (sym (is_le_word left right) ∙ before)
