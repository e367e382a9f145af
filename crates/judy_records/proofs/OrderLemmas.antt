-- Texts, and byte strings of one length, compare as their words do.
use Rattle.std.proofs.Common.{◌≡◌, ◌≢◌, ℕ, zero, suc, ◌+◌, ◌*◌, ◌^◌, ◌<◌, ◌≤◌, ⊎_elim, List, [], ◌∷◌, All, length, get_or, drop, sym, refl, ap, ◌∙◌, subst, arith, Ordering, Less}
use Rattle.std.proofs.Common.{Equal, Greater, nat_cmp}
use Rattle.std.specs.Cmp.{nat_cmp_is, tied_itself}
use Rattle.std.specs.Cmp.Lexicographic.{nat_list_cmp_total}
use Rattle.std.specs.Ordering.{ordering_then}
use Rattle.std.specs.FinMap.{nat_cmp-IsAntisymmetric, slice_cmp-IsAntisymmetric}
use Rattle.std.proofs.Math.Nat.{mul_comm, mul-pos}
use Rattle.std.proofs.lemmas.Nat.{mul-add-lt}
use Rattle.std.proofs.lemmas.Bool.{cases_order, cases_lt}
use Rattle.std.proofs.lemmas.List.{length-drop, get_or_past}
use Rattle.std.proofs.lemmas.List.Elements.{All-head, All-tail, All-nil}
use Rattle.judy_model.specs.Keys.{byte_order, IsByteString}
use Rattle.judy_model.proofs.lemmas.orders.ByteLemmas.{unit_pos}
use Rattle.judy_records.proofs.Spelling.{spelled-below}
use Rattle.judy_records.proofs.TextLemmas.{words-cons}
use Rattle.judy_records.specs.Texts.{spelled, first_word, words_of, IsText}

-- ---- byte strings that compare as their words do

-- Where one ends before the other, the other has no zero byte from there on.
abbrev pub AreTold : List ℕ → List ℕ → Type 0
AreTold [] two = All (λ byte. byte ≢ 0) two
AreTold (x ∷ xs) [] = All (λ byte. byte ≢ 0) (x ∷ xs)
AreTold (x ∷ xs) (y ∷ ys) = AreTold xs ys

-- Texts are, since they have no zero byte at all,
pub text-bytes : (bytes : List ℕ) → IsText bytes → IsByteString bytes
text-bytes bytes text = λ k d within. (text k d within).0

text-some : (bytes : List ℕ) → IsText bytes → All (λ byte. byte ≢ 0) bytes
text-some bytes text = λ k d within. (text k d within).1

pub told-texts : (one two : List ℕ) → IsText one → IsText two → AreTold one two
told-texts [] two p q = text-some two q
told-texts (x ∷ xs) [] p q = text-some (x ∷ xs) p
told-texts (x ∷ xs) (y ∷ ys) p q = told-texts xs ys (All-tail (λ b. (b < 256) × (b ≢ 0)) x xs p) (All-tail (λ b. (b < 256) × (b ≢ 0)) y ys q)

-- and so are byte strings of one length.
told-lengths : (one two : List ℕ) → length one ≡ length two → AreTold one two
told-lengths [] [] same = All-nil (λ byte. byte ≢ 0)
told-lengths [] (y ∷ ys) same = absurd (omega arith)
told-lengths (x ∷ xs) [] same = absurd (omega arith)
told-lengths (x ∷ xs) (y ∷ ys) same = told-lengths xs ys (omega arith)

-- What is left of them after their first bytes is so too.
pub all-drop : (P : ℕ → Type 0) (count : ℕ) (bytes : List ℕ) → All P bytes → All P (drop count bytes)
all-drop P zero bytes all = all
all-drop P (suc count) [] all = all
all-drop P (suc count) (byte ∷ bytes) all = all-drop P count bytes (All-tail P byte bytes all)

told-end : (one : List ℕ) → All (λ byte. byte ≢ 0) one → AreTold one []
told-end [] all = all
told-end (x ∷ xs) all = all

told-drop : (count : ℕ) (one two : List ℕ) → AreTold one two → AreTold (drop count one) (drop count two)
told-drop zero one two told = told
told-drop (suc count) [] [] told = told
told-drop (suc count) [] (y ∷ ys) told = all-drop (λ byte. byte ≢ 0) count ys (All-tail (λ byte. byte ≢ 0) y ys told)
told-drop (suc count) (x ∷ xs) [] told = told-end (drop count xs) (all-drop (λ byte. byte ≢ 0) count xs (All-tail (λ byte. byte ≢ 0) x xs told))
told-drop (suc count) (x ∷ xs) (y ∷ ys) told = told-drop count xs ys told

-- ---- numbers

-- So many bytes spell a number below so many bytes' bound.
below-at : (bytes : List ℕ) → IsByteString bytes → (k : ℕ) → get_or bytes k 0 < 256
below-at bytes are k = ⊎_elim
    (λ within. are k 0 within)
    (λ past. subst (λ byte. byte < 256) (sym (get_or_past bytes k 0 past)) (omega arith))
    (cases_lt k (length bytes))

pub spelled-lt : (width : ℕ) (bytes : List ℕ) → IsByteString bytes → spelled width bytes < 256 ^ width
spelled-lt width bytes are = spelled-below width bytes (below-at bytes are)

then_assoc : (one two three : Ordering) → ordering_then (ordering_then one two) three ≡ ordering_then one (ordering_then two three)
then_assoc Less two three = refl
then_assoc Equal two three = refl
then_assoc Greater two three = refl

-- Where what stands above is one, what stands below decides.
order-low : (high low other : ℕ) → nat_cmp (high + low) (high + other) ≡ nat_cmp low other
order-low high low other = ⊎_elim
    (λ same. sym (nat_cmp_is (high + low) (high + other) Equal (omega arith)) ∙ nat_cmp_is low other Equal same)
    (λ apart. ⊎_elim
    (λ less. sym (nat_cmp_is (high + low) (high + other) Less (omega arith)) ∙ nat_cmp_is low other Less less)
    (λ more. sym (nat_cmp_is (high + low) (high + other) Greater (omega arith)) ∙ nat_cmp_is low other Greater more)
    apart)
    (cases_order low other)

pub below_high : (unit left right low other : ℕ) → low < unit → left < right → left * unit + low < right * unit + other
below_high unit left right low other p less =
    let bound = mul-add-lt left unit low right less p in
    let turned = mul_comm unit right in
    omega arith

-- And else what stands above.
order-high : (unit left right low other : ℕ) → low < unit → other < unit → nat_cmp (left * unit + low) (right * unit + other) ≡ ordering_then (nat_cmp left right) (nat_cmp low other)
order-high unit left right low other p q = ⊎_elim
    (λ same. ap (λ n. nat_cmp (left * unit + low) (n * unit + other)) (sym same) ∙ order-low (left * unit) low other ∙
    ap (λ answer. ordering_then answer (nat_cmp low other)) (nat_cmp_is left right Equal same))
    (λ apart. ⊎_elim
    (λ less. sym (nat_cmp_is (left * unit + low) (right * unit + other) Less (below_high unit left right low other p less)) ∙
    ap (λ answer. ordering_then answer (nat_cmp low other)) (nat_cmp_is left right Less less))
    (λ more. sym (nat_cmp_is (left * unit + low) (right * unit + other) Greater (below_high unit right left other low q more)) ∙
    ap (λ answer. ordering_then answer (nat_cmp low other)) (nat_cmp_is left right Greater more))
    apart)
    (cases_order left right)

-- Where a byte that isn't zero stands, the number isn't zero.
pub spelled-some : (width byte : ℕ) (bytes : List ℕ) → byte ≢ 0 → 0 < spelled (suc width) (byte ∷ bytes)
spelled-some width byte bytes some =
    let here : 0 < byte * 256 ^ width = mul-pos (omega (arith, some)) (unit_pos width) in
    omega arith

-- ---- the order

-- They compare as the numbers that their first bytes spell, and where these are one, as their rests do.
order-spelled : (width : ℕ) (one two : List ℕ) → IsByteString one → IsByteString two → AreTold one two →
    byte_order one two ≡ ordering_then (nat_cmp (spelled width one) (spelled width two)) (byte_order (drop width one) (drop width two))
order-spelled zero one two p q told = refl
order-spelled (suc width) [] [] p q told = refl
order-spelled (suc width) [] (y ∷ ys) p q told =
    ap (λ answer. ordering_then answer (byte_order [] (drop width ys))) (nat_cmp_is 0 (spelled (suc width) (y ∷ ys)) Less (spelled-some width y ys (All-head (λ byte. byte ≢ 0) y ys told)))
order-spelled (suc width) (x ∷ xs) [] p q told =
    ap (λ answer. ordering_then answer (byte_order (drop width xs) [])) (nat_cmp_is (spelled (suc width) (x ∷ xs)) 0 Greater (spelled-some width x xs (All-head (λ byte. byte ≢ 0) x xs told)))
order-spelled (suc width) (x ∷ xs) (y ∷ ys) p q told =
    let ps = All-tail (λ b. b < 256) x xs p in
    let qs = All-tail (λ b. b < 256) y ys q in
    ap (λ answer. ordering_then (nat_cmp x y) answer) (order-spelled width xs ys ps qs told)
    ∙ sym (then_assoc (nat_cmp x y) (nat_cmp (spelled width xs) (spelled width ys)) (byte_order (drop width xs) (drop width ys)))
    ∙ ap (λ answer. ordering_then answer (byte_order (drop width xs) (drop width ys))) (sym (order-high (256 ^ width) x y (spelled width xs) (spelled width ys)
    (spelled-lt width xs ps) (spelled-lt width ys qs)))

-- As their first words, and where these are one, as what stands behind them.
pub order-first : (one two : List ℕ) → IsByteString one → IsByteString two → AreTold one two → byte_order one two ≡
    ordering_then (nat_cmp (first_word one) (first_word two)) (byte_order (drop 8 one) (drop 8 two))
unfolding first_word
order-first one two p q told = order-spelled 8 one two p q told

order-within : (most : ℕ) (one two : List ℕ) → length one ≤ most → IsByteString one → IsByteString two → AreTold one two → byte_order (words_of one) (words_of two) ≡ byte_order one two
order-within most [] [] within p q told = refl
order-within most [] (y ∷ ys) within p q told = ap (byte_order []) (words-cons (y ∷ ys) (omega arith))
order-within most (x ∷ xs) [] within p q told = ap (λ words. byte_order words []) (words-cons (x ∷ xs) (omega arith))
order-within zero (x ∷ xs) (y ∷ ys) within p q told = absurd (omega (arith, within))
order-within (suc most) (x ∷ xs) (y ∷ ys) within p q told =
    let left = length-drop 8 (x ∷ xs) in
    (λ i. byte_order (words-cons (x ∷ xs) (omega arith) i) (words-cons (y ∷ ys) (omega arith) i))
    ∙ ap (ordering_then (nat_cmp (first_word (x ∷ xs)) (first_word (y ∷ ys))))
    (order-within most (drop 8 (x ∷ xs)) (drop 8 (y ∷ ys)) (omega (arith, left, within)) (all-drop (λ b. b < 256) 8 (x ∷ xs) p) (all-drop (λ b. b < 256) 8 (y ∷ ys) q)
    (told-drop 8 (x ∷ xs) (y ∷ ys) told))
    ∙ sym (order-first (x ∷ xs) (y ∷ ys) p q told)

-- As their words, and only one of them has its words.
module _ (one two : List ℕ) (p : IsByteString one) (q : IsByteString two) (told : AreTold one two) where
  order-told : byte_order (words_of one) (words_of two) ≡ byte_order one two
  order-told = order-within (length one) one two (omega arith) p q told

  same-told : words_of one ≡ words_of two → one ≡ two
  same-told same =
      slice_cmp-IsAntisymmetric nat_cmp-IsAntisymmetric one two (sym order-told ∙ ap (λ words. byte_order words (words_of two)) same ∙ tied_itself nat_list_cmp_total (words_of two))

-- So it is of texts,
module _ (one two : List ℕ) (p : IsText one) (q : IsText two) where
  pub order-words : byte_order (words_of one) (words_of two) ≡ byte_order one two
  order-words = order-told one two (text-bytes one p) (text-bytes two q) (told-texts one two p q)

  pub words-same : words_of one ≡ words_of two → one ≡ two
  words-same = same-told one two (text-bytes one p) (text-bytes two q) (told-texts one two p q)

-- and of byte strings of one length.
module _ (one two : List ℕ) (p : IsByteString one) (q : IsByteString two) (long : length one ≡ length two) where
  pub order-long : byte_order (words_of one) (words_of two) ≡ byte_order one two
  order-long = order-told one two p q (told-lengths one two long)

  pub same-long : words_of one ≡ words_of two → one ≡ two
  same-long = same-told one two p q (told-lengths one two long)
