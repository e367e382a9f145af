-- Tests of two parts, and what holds where a test does.
use Rattle.std.proofs.Common.{◌≡◌, Bool, true, false, ◌&&◌, T, Less, Equal, Greater, refl}
use Rattle.std.specs.declared.cmp.Ordering.{Ordering}
use Rattle.std.specs.Ordering.{is_lt}

-- A test of two parts holds where both do.
pub both : (a b : Bool) → T a → T b → T (a && b)
both true b h k = k
both false b h k = absurd h

pub left_of : (a b : Bool) → T (a && b) → T a
left_of true b h = tt
left_of false b h = h

pub right_of : (a b : Bool) → T (a && b) → T b
right_of true b h = h
right_of false b h = absurd h

-- The same of tests that answer true.
pub both_true : (a b : Bool) → a ≡ true → b ≡ true → (a && b) ≡ true
both_true true b first second = second
both_true false b first second = first

pub first_true : (a b : Bool) → (a && b) ≡ true → a ≡ true
first_true true b h = refl
first_true false b h = h

pub second_true : (a b : Bool) → (a && b) ≡ true → b ≡ true
second_true true b h = h
second_true false b h = cc

-- A test holds where it answers true.
pub test_holds : (b : Bool) → b ≡ true → T b
test_holds true e = tt
test_holds false e = absurd cc

pub holds_test : (b : Bool) → T b → b ≡ true
holds_test true h = refl
holds_test false h = absurd h

-- An answer that is less is `Less`.
pub is_Less : (r : Ordering) → T (is_lt r) → r ≡ Less
is_Less Less h = refl
is_Less Equal h = absurd h
is_Less Greater h = absurd h
