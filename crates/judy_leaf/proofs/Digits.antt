-- Numbers and their digits in a base.
use Rattle.std.proofs.Common.{◌≡◌, ℕ, zero, suc, ◌+◌, ◌-◌, ◌*◌, ◌/◌, ◌%◌, ◌^◌, ◌<◌, List, [], ◌∷◌, ◌++◌, length, get_or, refl, ap, sym, ◌∙◌, subst, arith}
use Rattle.std.specs.List.{AllByRecursion}
use Rattle.std.proofs.Math.Nat.{pow-zero, pow-suc, mul_assoc, add-mul-mod_self_left, add-mul-div_left, mod-eq_of_lt, div-eq_of_lt, div-div-eq-div-mul, mul_comm, div-lt_iff_lt-mul}
use Rattle.std.proofs.Math.Arith.{mod-mul}
use Rattle.std.proofs.lemmas.Nat.{mod_below, div-add-mod', mul-add-lt}
use Rattle.judy_leaf.specs.Packing.{digits, pushed, pulled}

module _ (base : ℕ) (some : 0 < base) where
  pub power_pos : (count : ℕ) → 0 < base ^ count
  power_pos zero = omega (arith, pow-zero base)
  power_pos (suc count) = let step = pow-suc base count in subst (λ n. 0 < n) (sym step) (product_pos (base ^ count) base (power_pos count) some)
    where
      product_pos : (a b : ℕ) → 0 < a → 0 < b → 0 < a * b
      product_pos zero b p q = let never : ⊥ = omega arith in absurd never
      product_pos (suc a) zero p q = let never : ⊥ = omega arith in absurd never
      product_pos (suc a) (suc b) p q = omega arith

  power_more : (count : ℕ) → base ^ suc count ≡ base * base ^ count
  power_more count = pow-suc base count ∙ mul_comm (base ^ count) base

  -- The number whose digits these are, the lowest first.
  abbrev pub number : List ℕ → ℕ
  number [] = 0
  number (x ∷ xs) = x + base * number xs

  -- Each is a digit.
  abbrev pub AreDigits : List ℕ → Type 0
  AreDigits xs = AllByRecursion (λ x. x < base) xs

  pub length-digits : (count number : ℕ) → length (digits base count number) ≡ count
  length-digits zero number = refl
  length-digits (suc count) number = ap suc (length-digits count (number / base))

  pub digits-AreDigits : (count number : ℕ) → AreDigits (digits base count number)
  digits-AreDigits zero number = tt
  digits-AreDigits (suc count) number = (mod_below number base some, digits-AreDigits count (number / base))

  -- A number is that of its digits, where they are enough.
  pub number-digits : (count word : ℕ) → word < base ^ count → number (digits base count word) ≡ word
  number-digits zero word fits = omega (arith, pow-zero base)
  number-digits (suc count) word fits =
      let smaller : word / base < base ^ count = (div-lt_iff_lt-mul some).1 (subst (λ bound. word < bound) (pow-suc base count) fits) in
      let whole = div-add-mod' word base in
      let turned = mul_comm (word / base) base in
      ap (λ n. word % base + base * n) (number-digits count (word / base) smaller) ∙ omega arith

  -- Digits give their number back.
  pub digits-number : (xs : List ℕ) → AreDigits xs → digits base (length xs) (number xs) ≡ xs
  digits-number [] are = refl
  digits-number (x ∷ xs) are =
      let low : (x + base * number xs) % base ≡ x = add-mul-mod_self_left x base (number xs) ∙ mod-eq_of_lt are.0 in
      let none : x / base ≡ 0 = div-eq_of_lt are.0 in
      let high : (x + base * number xs) / base ≡ number xs = add-mul-div_left x (number xs) some ∙ omega arith in
      λ t. low t ∷ (ap (digits base (length xs)) high ∙ digits-number xs are.1) t

  -- Their number is below that power of the base.
  pub number-lt : (xs : List ℕ) → AreDigits xs → number xs < base ^ length xs
  number-lt [] are = omega (arith, pow-zero base)
  number-lt (x ∷ xs) are =
      let rest = number-lt xs are.1 in
      let here : number xs * base + x < base * base ^ length xs = mul-add-lt (number xs) base x (base ^ length xs) rest are.0 in
      let turned = mul_comm (number xs) base in
      subst (λ bound. x + base * number xs < bound) (sym (power_more (length xs))) (omega arith)

  -- The lowest digit of a number, and what stands above it.
  low_of : (x m : ℕ) → x < base → (x + base * m) % base ≡ x
  low_of x m small = add-mul-mod_self_left x base m ∙ mod-eq_of_lt small

  high_of : (x m : ℕ) → x < base → (x + base * m) / base ≡ m
  high_of x m small = let none : x / base ≡ 0 = div-eq_of_lt small in add-mul-div_left x m some ∙ omega arith

  mod_more : (x m count : ℕ) → x < base → (x + base * m) % base ^ suc count ≡ x + base * (m % base ^ count)
  mod_more x m count small =
      let turned = mul_comm (m % base ^ count) base in
      ap (λ unit. (x + base * m) % unit) (pow-suc base count) ∙ mod-mul (x + base * m) (power_pos count) some
      ∙ (λ t. (high_of x m small t % base ^ count) * base + low_of x m small t) ∙ omega arith

  div_more : (x m count : ℕ) → x < base → (x + base * m) / base ^ suc count ≡ m / base ^ count
  div_more x m count small =
      ap (λ unit. (x + base * m) / unit) (power_more count) ∙ sym (div-div-eq-div-mul (x + base * m) base (base ^ count)) ∙ ap (λ n. n / base ^ count) (high_of x m small)

  -- The digit at a place.
  pub digit_at : (count word at : ℕ) → at < count → word / base ^ at % base ≡ get_or (digits base count word) at 0
  digit_at zero word at inside = let never : ⊥ = omega arith in absurd never
  digit_at (suc count) word zero inside = (λ t. word / pow-zero base t % base) ∙ ap (λ n. n % base) (let e : word / 1 ≡ word = omega arith in e)
  digit_at (suc count) word (suc at) inside =
      ap (λ n. n % base) (ap (λ unit. word / unit) (power_more at) ∙ sym (div-div-eq-div-mul word base (base ^ at))) ∙ digit_at count (word / base) at (omega arith)

  -- ---- a digit put in

  pub length-pushed : (at key : ℕ) (xs : List ℕ) → length (pushed at key xs) ≡ length xs
  length-pushed at key [] = refl
  length-pushed zero key (x ∷ xs) = ap suc (length-pushed zero x xs)
  length-pushed (suc at) key (x ∷ xs) = ap suc (length-pushed at key xs)

  pub pushed-AreDigits : (at key : ℕ) (xs : List ℕ) → key < base → AreDigits xs → AreDigits (pushed at key xs)
  pushed-AreDigits at key [] small are = tt
  pushed-AreDigits zero key (x ∷ xs) small are = (small, pushed-AreDigits zero x xs are.0 are.1)
  pushed-AreDigits (suc at) key (x ∷ xs) small are = (are.0, pushed-AreDigits at key xs small are.1)

  -- All but the last of a number's digits, one place up.
  number_but_last : (x : ℕ) (xs : List ℕ) → AreDigits (x ∷ xs) → number (x ∷ xs) % base ^ length xs ≡ number (pushed zero x xs)
  number_but_last x [] are = (λ t. number (x ∷ []) % pow-zero base t) ∙ omega arith
  number_but_last x (y ∷ ys) are = mod_more x (number (y ∷ ys)) (length ys) are.0 ∙ ap (λ n. x + base * n) (number_but_last y ys are.1)

  -- The number with a digit put in, by what stands below its place and above it.
  pub number-pushed : (at key : ℕ) (xs : List ℕ) → AreDigits xs → at < length xs
      → number xs % base ^ at + (key + (number xs / base ^ at % base ^ (length xs - 1 - at)) * base) * base ^ at ≡ number (pushed at key xs)
  number-pushed at key [] are inside = let never : ⊥ = omega arith in absurd never
  number-pushed zero key (x ∷ xs) are inside =
      let whole : number (x ∷ xs) / base ^ 0 ≡ number (x ∷ xs) = (λ t. number (x ∷ xs) / pow-zero base t) ∙ omega arith in
      let left : length (x ∷ xs) - 1 - 0 ≡ length xs = omega arith in
      let above : number (x ∷ xs) / base ^ 0 % base ^ (length (x ∷ xs) - 1 - 0) ≡ number (pushed zero x xs) = (λ t. whole t % base ^ left t) ∙ number_but_last x xs are in
      let turned = mul_comm (number (pushed zero x xs)) base in
      (λ t. number (x ∷ xs) % pow-zero base t + (key + above t * base) * pow-zero base t) ∙ omega arith
  number-pushed (suc at) key (x ∷ xs) are inside =
      let m = number xs in
      let rest = number-pushed at key xs are.1 (omega arith) in
      let left : length (x ∷ xs) - 1 - suc at ≡ length xs - 1 - at = omega arith in
      let high = m / base ^ at % base ^ (length xs - 1 - at) in
      let inner = key + high * base in
      let up : inner * base ^ suc at ≡ base * (inner * base ^ at) =
      ap (λ n. inner * n) (power_more at) ∙ sym (mul_assoc inner base (base ^ at)) ∙ ap (λ n. n * base ^ at) (mul_comm inner base) ∙ mul_assoc base inner (base ^ at) in
      (λ t. mod_more x m at are.0 t + (key + (div_more x m at are.0 t % base ^ left t) * base) * base ^ suc at)
      ∙ ap (λ n. x + base * (m % base ^ at) + n) up
      ∙ (let spread : x + base * (m % base ^ at) + base * (inner * base ^ at) ≡ x + base * (m % base ^ at + inner * base ^ at) = omega arith in spread)
      ∙ ap (λ n. x + base * n) rest

  -- ---- a digit taken out

  pub length-pulled : (at last : ℕ) (xs : List ℕ) → length (pulled at last xs) ≡ length xs
  length-pulled at last [] = refl
  length-pulled zero last (x ∷ xs) = one_more xs last
    where
      one_more : (xs : List ℕ) (last : ℕ) → length (xs ++ last ∷ []) ≡ suc (length xs)
      one_more [] last = refl
      one_more (x ∷ xs) last = ap suc (one_more xs last)
  length-pulled (suc at) last (x ∷ xs) = ap suc (length-pulled at last xs)

  ended-AreDigits : (xs : List ℕ) (last : ℕ) → last < base → AreDigits xs → AreDigits (xs ++ last ∷ [])
  ended-AreDigits [] last small are = (small, tt)
  ended-AreDigits (x ∷ xs) last small are = (are.0, ended-AreDigits xs last small are.1)

  pub pulled-AreDigits : (at last : ℕ) (xs : List ℕ) → last < base → AreDigits xs → AreDigits (pulled at last xs)
  pulled-AreDigits at last [] small are = tt
  pulled-AreDigits zero last (x ∷ xs) small are = ended-AreDigits xs last small are.1
  pulled-AreDigits (suc at) last (x ∷ xs) small are = (are.0, pulled-AreDigits at last xs small are.1)

  number-ended : (xs : List ℕ) (last : ℕ) → number xs + last * base ^ length xs ≡ number (xs ++ last ∷ [])
  number-ended [] last = (λ t. 0 + last * pow-zero base t) ∙ omega arith
  number-ended (x ∷ xs) last =
      let up : last * base ^ suc (length xs) ≡ base * (last * base ^ length xs) =
      ap (λ n. last * n) (power_more (length xs)) ∙ sym (mul_assoc last base (base ^ length xs)) ∙ ap (λ n. n * base ^ length xs) (mul_comm last base) ∙ mul_assoc base last (base ^ length xs) in
      ap (λ n. x + base * number xs + n) up
      ∙ (let spread : x + base * number xs + base * (last * base ^ length xs) ≡ x + base * (number xs + last * base ^ length xs) = omega arith in spread)
      ∙ ap (λ n. x + base * n) (number-ended xs last)

  -- The number without a digit, by what stands below its place and above it.
  pub number-pulled : (at last : ℕ) (xs : List ℕ) → AreDigits xs → at < length xs
      → number xs % base ^ at + (number xs / base ^ (at + 1) + last * base ^ (length xs - 1 - at)) * base ^ at ≡ number (pulled at last xs)
  number-pulled at last [] are inside = let never : ⊥ = omega arith in absurd never
  number-pulled zero last (x ∷ xs) are inside =
      let left : length (x ∷ xs) - 1 - 0 ≡ length xs = omega arith in
      let one : 0 + 1 ≡ suc 0 = omega arith in
      let high : number (x ∷ xs) / base ^ (0 + 1) ≡ number xs = ap (λ n. number (x ∷ xs) / base ^ n) one ∙ div_more x (number xs) 0 are.0 ∙ (λ t. number xs / pow-zero base t) ∙ omega arith in
      (λ t. number (x ∷ xs) % pow-zero base t + (high t + last * base ^ left t) * pow-zero base t) ∙ omega arith ∙ number-ended xs last
  number-pulled (suc at) last (x ∷ xs) are inside =
      let m = number xs in
      let rest = number-pulled at last xs are.1 (omega arith) in
      let left : length (x ∷ xs) - 1 - suc at ≡ length xs - 1 - at = omega arith in
      let one : suc at + 1 ≡ suc (at + 1) = omega arith in
      let inner = m / base ^ (at + 1) + last * base ^ (length xs - 1 - at) in
      let high : (x + base * m) / base ^ (suc at + 1) ≡ m / base ^ (at + 1) = ap (λ n. (x + base * m) / base ^ n) one ∙ div_more x m (at + 1) are.0 in
      let up : inner * base ^ suc at ≡ base * (inner * base ^ at) =
      ap (λ n. inner * n) (power_more at) ∙ sym (mul_assoc inner base (base ^ at)) ∙ ap (λ n. n * base ^ at) (mul_comm inner base) ∙ mul_assoc base inner (base ^ at) in
      (λ t. mod_more x m at are.0 t + (high t + last * base ^ left t) * base ^ suc at)
      ∙ ap (λ n. x + base * (m % base ^ at) + n) up
      ∙ (let spread : x + base * (m % base ^ at) + base * (inner * base ^ at) ≡ x + base * (m % base ^ at + inner * base ^ at) = omega arith in spread)
      ∙ ap (λ n. x + base * n) rest
