-- The steps on one word of packed keys, and what they make of its places.
use Rattle.std.proofs.Common.{◌≡◌, ℕ, zero, suc, ◌+◌, ◌-◌, ◌*◌, ◌/◌, ◌%◌, ◌^◌, ◌<◌, ◌≤◌, List, length, get_or, ap, sym, ◌∙◌, subst, arith}
use Rattle.std.proofs.Math.Nat.{pow-le-pow_right, mul-div-le, mul-le-mul_left, pow-zero, pow-suc, le-mul_of_pos_right}
use Rattle.std.proofs.lemmas.Nat.{pow-add}
use Rattle.judy_leaf.specs.Packing.{digits, places, HasZeroPadding, IsWidth, pushed, pulled}
use Rattle.judy_leaf.proofs.Digits.{power_pos, number, AreDigits, length-digits, digits-AreDigits, number-digits, digits-number, number-lt, digit_at, length-pushed}
use Rattle.judy_leaf.proofs.Digits.{pushed-AreDigits, number-pushed, length-pulled, pulled-AreDigits, number-pulled}

-- (256^width)^count has width * count bytes.
pub bytes_of : (width count : ℕ) → (256 ^ width) ^ count ≡ 256 ^ (width * count)
bytes_of width zero = pow-zero (256 ^ width) ∙ ap (λ n. 256 ^ n) (let e : 0 ≡ width * 0 = omega arith in e)
bytes_of width (suc count) =
    pow-suc (256 ^ width) count ∙ ap (λ n. n * 256 ^ width) (bytes_of width count) ∙ sym (pow-add 256 (width * count) width)
    ∙ ap (λ n. 256 ^ n) (let e : width * count + width ≡ width * suc count = omega arith in e)

module _ (width : ℕ) (is : IsWidth width) where
  -- The places of a word take at most its eight bytes.
  pub places_within : (count : ℕ) → count ≤ 8 / width → width * count ≤ 8
  places_within count fit = let whole = mul-div-le 8 width in let more = mul-le-mul_left width fit in omega arith

  pub base_pos : 0 < 256 ^ width
  base_pos = power_pos 256 (omega arith) width

  pub room_fits : (256 ^ width) ^ (8 / width) ≤ 2 ^ 64
  room_fits = subst (λ n. n ≤ 2 ^ 64) (sym (bytes_of width (8 / width))) (pow-le-pow_right {n = 256} (omega arith) (places_within (8 / width) (omega arith)))

  -- The key at a place of a word.
  pub key_at_place : (word at : ℕ) → at < 8 / width → word / 256 ^ (width * at) % 256 ^ width ≡ get_or (places width word) at 0
  key_at_place word at inside = (λ t. word / sym (bytes_of width at) t % 256 ^ width) ∙ digit_at (256 ^ width) base_pos (8 / width) word at inside

  module _ (word at key : ℕ) (inside : at < 8 / width) (small : key < 256 ^ width) (tight : HasZeroPadding width word) where
    unit : ℕ
    unit = 256 ^ (width * at)

    ds : List ℕ
    ds = places width word

    long : length ds ≡ 8 / width
    unfolding ds
    long = length-digits (256 ^ width) base_pos (8 / width) word

    are : AreDigits (256 ^ width) base_pos ds
    unfolding ds
    are = digits-AreDigits (256 ^ width) base_pos (8 / width) word

    whole : number (256 ^ width) base_pos ds ≡ word
    unfolding ds
    whole = number-digits (256 ^ width) base_pos (8 / width) word tight

    unit_pos : 0 < unit
    unfolding unit
    unit_pos = power_pos 256 (omega arith) (width * at)

    within : at < length ds
    within = let h = long in omega arith

    rest : 256 ^ (width * (8 / width - 1 - at)) ≡ (256 ^ width) ^ (length ds - 1 - at)
    rest = sym (bytes_of width (8 / width - 1 - at)) ∙ ap (λ n. (256 ^ width) ^ (n - 1 - at)) (sym long)

    -- Four numbers of which each is part of the last fit where it does.
    parts_fit : (low inner moved u : ℕ) → 0 < u → moved ≤ inner → low + inner * u < 2 ^ 64 → (moved < 2 ^ 64) × (inner < 2 ^ 64) × (inner * u < 2 ^ 64)
    parts_fit low inner moved u some within all = let most = le-mul_of_pos_right inner some in (omega arith, omega arith, omega arith)

    from_number : (list : List ℕ) → length list ≡ length ds → AreDigits (256 ^ width) base_pos list → (value : ℕ) → value ≡ number (256 ^ width) base_pos list
        → (value < 2 ^ 64) × (places width value ≡ list) × HasZeroPadding width value
    from_number list same digits_are value is =
        let below : number (256 ^ width) base_pos list < (256 ^ width) ^ length list = number-lt (256 ^ width) base_pos list digits_are in
        let count : length list ≡ 8 / width = same ∙ long in
        let room : number (256 ^ width) base_pos list < (256 ^ width) ^ (8 / width) = subst (λ n. number (256 ^ width) base_pos list < (256 ^ width) ^ n) count below in
        let tight_now : value < (256 ^ width) ^ (8 / width) = subst (λ n. n < (256 ^ width) ^ (8 / width)) (sym is) room in
        let most = room_fits in
        (omega arith, (λ t. digits (256 ^ width) (sym count t) (is t)) ∙ digits-number (256 ^ width) base_pos list digits_are, tight_now)

    -- ---- a key put in: what stands above it moves up by a place, and all of it to its place

    abbrev pub put_value : ℕ
    put_value = word % 256 ^ (width * at) + (key + word / 256 ^ (width * at) % 256 ^ (width * (8 / width - 1 - at)) * 256 ^ width) * 256 ^ (width * at)

    put_number : put_value ≡ number (256 ^ width) base_pos (pushed at key ds)
    put_number =
        (λ t. sym whole t % sym (bytes_of width at) t + (key + (sym whole t / sym (bytes_of width at) t % rest t) * 256 ^ width) * sym (bytes_of width at) t)
        ∙ number-pushed (256 ^ width) base_pos at key ds are within

    put_result : (put_value < 2 ^ 64) × (places width put_value ≡ pushed at key ds) × HasZeroPadding width put_value
    put_result = from_number (pushed at key ds) (length-pushed (256 ^ width) base_pos at key ds) (pushed-AreDigits (256 ^ width) base_pos at key ds small are) put_value put_number

    pub put_all : (high above up moved low : ℕ) → high ≡ word / 256 ^ (width * at) → above ≡ high % 256 ^ (width * (8 / width - 1 - at)) → up ≡ above * 256 ^ width
        → moved ≡ (key + up) * 256 ^ (width * at) → low ≡ word % 256 ^ (width * at) → low + moved ≡ put_value
    put_all high above up moved low p q r s v =
        let up_is : up ≡ (word / 256 ^ (width * at) % 256 ^ (width * (8 / width - 1 - at))) * 256 ^ width = r ∙ ap (λ n. n * 256 ^ width) (q ∙ ap (λ n. n % 256 ^ (width * (8 / width - 1 - at))) p) in
        λ t. v t + (s ∙ ap (λ n. (key + n) * 256 ^ (width * at)) up_is) t

    -- Each sum and product on the way is a word.
    pub put_fits : (high above : ℕ) → high ≡ word / 256 ^ (width * at) → above ≡ high % 256 ^ (width * (8 / width - 1 - at))
        → (above * 256 ^ width < 2 ^ 64) × (key + above * 256 ^ width < 2 ^ 64) × ((key + above * 256 ^ width) * 256 ^ (width * at) < 2 ^ 64)
    unfolding unit
    put_fits high above p q =
        let is = q ∙ ap (λ n. n % 256 ^ (width * (8 / width - 1 - at))) p in
        subst (λ n. (n * 256 ^ width < 2 ^ 64) × (key + n * 256 ^ width < 2 ^ 64) × ((key + n * 256 ^ width) * 256 ^ (width * at) < 2 ^ 64)) (sym is)
        (parts_fit (word % 256 ^ (width * at)) (key + word / 256 ^ (width * at) % 256 ^ (width * (8 / width - 1 - at)) * 256 ^ width)
        (word / 256 ^ (width * at) % 256 ^ (width * (8 / width - 1 - at)) * 256 ^ width) (256 ^ (width * at)) unit_pos (omega arith) put_result.0)

    pub put_word : put_value < 2 ^ 64
    put_word = put_result.0

    pub put_places : (value : ℕ) → value ≡ put_value → places width value ≡ pushed at key (places width word)
    unfolding ds
    put_places value is = ap (places width) is ∙ put_result.1

    pub put_tight : (value : ℕ) → value ≡ put_value → HasZeroPadding width value
    put_tight value is = subst (HasZeroPadding width) (sym is) put_result.2

    -- ---- a key taken out: what stands above it moves down by a place, and the new last key to its place

    abbrev pub left_value : ℕ
    left_value = word % 256 ^ (width * at) + (word / 256 ^ (width * (at + 1)) + key * 256 ^ (width * (8 / width - 1 - at))) * 256 ^ (width * at)

    left_number : left_value ≡ number (256 ^ width) base_pos (pulled at key ds)
    left_number =
        (λ t. sym whole t % sym (bytes_of width at) t + (sym whole t / sym (bytes_of width (at + 1)) t + key * rest t) * sym (bytes_of width at) t)
        ∙ number-pulled (256 ^ width) base_pos at key ds are within

    left_result : (left_value < 2 ^ 64) × (places width left_value ≡ pulled at key ds) × HasZeroPadding width left_value
    left_result = from_number (pulled at key ds) (length-pulled (256 ^ width) base_pos at key ds) (pulled-AreDigits (256 ^ width) base_pos at key ds small are) left_value left_number

    pub left_all : (high up moved low : ℕ) → high ≡ word / 256 ^ (width * (at + 1)) → up ≡ key * 256 ^ (width * (8 / width - 1 - at))
        → moved ≡ (high + up) * 256 ^ (width * at) → low ≡ word % 256 ^ (width * at) → low + moved ≡ left_value
    left_all high up moved low p r s v = λ t. v t + (s ∙ (λ j. (p j + r j) * 256 ^ (width * at))) t

    pub left_fits : (high : ℕ) → high ≡ word / 256 ^ (width * (at + 1))
        → (key * 256 ^ (width * (8 / width - 1 - at)) < 2 ^ 64) × (high + key * 256 ^ (width * (8 / width - 1 - at)) < 2 ^ 64) ×
        ((high + key * 256 ^ (width * (8 / width - 1 - at))) * 256 ^ (width * at) < 2 ^ 64)
    unfolding unit
    left_fits high p =
        subst (λ n. (key * 256 ^ (width * (8 / width - 1 - at)) < 2 ^ 64) × (n + key * 256 ^ (width * (8 / width - 1 - at)) < 2 ^ 64) ×
        ((n + key * 256 ^ (width * (8 / width - 1 - at))) * 256 ^ (width * at) < 2 ^ 64)) (sym p)
        (parts_fit (word % 256 ^ (width * at)) (word / 256 ^ (width * (at + 1)) + key * 256 ^ (width * (8 / width - 1 - at))) (key * 256 ^ (width * (8 / width - 1 - at)))
        (256 ^ (width * at)) unit_pos (omega arith) left_result.0)

    pub left_word : left_value < 2 ^ 64
    left_word = left_result.0

    pub left_places : (value : ℕ) → value ≡ left_value → places width value ≡ pulled at key (places width word)
    unfolding ds
    left_places value is = ap (places width) is ∙ left_result.1

    pub left_tight : (value : ℕ) → value ≡ left_value → HasZeroPadding width value
    left_tight value is = subst (HasZeroPadding width) (sym is) left_result.2
