-- The words of bytes, one after the other.
use Rattle.std.proofs.Common.{◌≡◌, ◌≢◌, ◌↔◌, ℕ, zero, suc, ◌+◌, ◌*◌, ◌<◌, ◌≤◌, List, [], ◌∷◌, ◌++◌, length, take, drop, get_or, set, refl, sym, ap, ◌∙◌, arith, add-one, Bool, true}
use Rattle.std.proofs.Common.{false, ◌&&◌, nat_eq, IsTrue, Ordering, Less, Equal, Greater, nat_cmp}
use Rattle.std.proofs.lemmas.List.{length-drop, length-append, drop-drop, drop_all, drop_more, take_more, set_at, append_assoc, same_from_push}
use Rattle.std.proofs.lemmas.Bool.{eqb-true, eq-eqb, false≢true}
use Rattle.std.specs.Cmp.{nat_cmp_is}
use Rattle.std.specs.Ordering.{ordering_then}
use Rattle.std.specs.FinMap.{nat_cmp-IsAntisymmetric}
use Rattle.judy_model.specs.Keys.{byte_order}
use Rattle.judy_records.specs.Texts.{first_word, words_for, words_in, words_of}

pub length-words : (count : ℕ) (bytes : List ℕ) → length (words_in count bytes) ≡ count
length-words zero bytes = refl
length-words (suc count) bytes = ap (λ n. suc n) (length-words count (drop 8 bytes))

-- One word more.
words-suc : (count : ℕ) (bytes : List ℕ) → words_in (suc count) bytes ≡ words_in count bytes ++ first_word (drop (8 * count) bytes) ∷ []
words-suc zero bytes = refl
words-suc (suc count) bytes =
    let e : 8 + 8 * count ≡ 8 * suc count = omega arith in
    ap (λ words. first_word bytes ∷ words) (words-suc count (drop 8 bytes) ∙ ap (λ rest. words_in count (drop 8 bytes) ++ first_word rest ∷ [])
    (drop-drop (8 * count) 8 bytes ∙ ap (λ n. drop n bytes) e))

pub words-more : (count : ℕ) (bytes : List ℕ) → words_in (count + 1) bytes ≡ words_in count bytes ++ first_word (drop (8 * count) bytes) ∷ []
words-more count bytes = ap (λ n. words_in n bytes) (add-one count) ∙ words-suc count bytes

-- The first word, and those of what is left.
pub words-cons : (bytes : List ℕ) → 0 < length bytes → words_of bytes ≡ first_word bytes ∷ words_of (drop 8 bytes)
words-cons bytes some =
    let left = length-drop 8 bytes in
    let e : words_for (length bytes) ≡ suc (words_for (length (drop 8 bytes))) = omega arith in
    ap (λ n. words_in n bytes) e

-- The word at a place.
pub words-at : (count at : ℕ) (bytes : List ℕ) → at < count → get_or (words_in count bytes) at 0 ≡ first_word (drop (8 * at) bytes)
words-at zero at bytes inside = absurd (omega (arith, inside))
words-at (suc count) zero bytes inside = refl
words-at (suc count) (suc at) bytes inside =
    let e : 8 + 8 * at ≡ 8 * suc at = omega arith in
    words-at count at (drop 8 bytes) (omega (arith, inside)) ∙ ap first_word (drop-drop (8 * at) 8 bytes ∙ ap (λ n. drop n bytes) e)

-- A word is written over a text.
pub words-written : (old now bytes rest : List ℕ) (count : ℕ) → count < length old → now ≡ words_in count bytes ++ drop count old → rest ≡ drop (8 * count) bytes →
    set now count (first_word rest) ≡ words_in (count + 1) bytes ++ drop (count + 1) old
words-written old now bytes rest count inside e behind =
    ap (λ words. set words count (first_word rest)) (e ∙ ap (λ words. words_in count bytes ++ words) (drop_more old count 0 inside))
    ∙ set_at (words_in count bytes) (get_or old count 0) (drop (count + 1) old) (first_word rest) count (length-words count bytes)
    ∙ sym (append_assoc (words_in count bytes) (first_word rest ∷ []) (drop (count + 1) old))
    ∙ ap (λ words. words ++ drop (count + 1) old) (ap (λ r. words_in count bytes ++ first_word r ∷ []) behind ∙ sym (words-more count bytes))

-- A word is put behind those of a text.
pub words-pushed : (old now bytes rest : List ℕ) (value count : ℕ) → now ≡ old ++ value ∷ words_in count bytes → rest ≡ drop (8 * count) bytes →
    now ++ first_word rest ∷ [] ≡ old ++ value ∷ words_in (count + 1) bytes
words-pushed old now bytes rest value count e behind =
    ap (λ words. words ++ first_word rest ∷ []) e
    ∙ append_assoc old (value ∷ words_in count bytes) (first_word rest ∷ [])
    ∙ ap (λ words. old ++ value ∷ words) (ap (λ r. words_in count bytes ++ first_word r ∷ []) behind ∙ sym (words-more count bytes))

pub length-pushed : (old now : List ℕ) (value : ℕ) (text : List ℕ) → now ≡ old ++ value ∷ text → length now ≡ length old + 1 + length text
length-pushed old now value text e = (let long = ap length e ∙ length-append old (value ∷ text) in omega (arith, long))

-- The words of two texts are the same up to one more.
pub same-more : (text bytes rest : List ℕ) (count : ℕ) → count < length text → rest ≡ drop (8 * count) bytes →
    (take count text ≡ words_in count bytes) × (get_or text count 0 ≡ first_word rest) ↔ take (count + 1) text ≡ words_in (count + 1) bytes
same-more text bytes rest count inside behind =
    let left = take_more text count 0 inside in
    let right = words-more count bytes in (
      λ both. left ∙ (λ i. both.0 i ++ (both.1 ∙ ap first_word behind) i ∷ []) ∙ sym right,
      λ same. let parts =
          same_from_push (take count text) (words_in count bytes) (get_or text count 0) (first_word (drop (8 * count) bytes)) (sym left ∙ same ∙ right) in
          (parts.0, parts.1 ∙ ap first_word (sym behind)),
    )

-- Both hold.
pub both-true : (b : Bool) (x y : ℕ) → (IsTrue (b && nat_eq x y) → IsTrue b × (x ≡ y)) × (IsTrue b → x ≡ y → IsTrue (b && nat_eq x y))
both-true true x y = (λ is. (refl, eqb-true x y is), λ _ e. eq-eqb x y e)
both-true false x y = (λ is. absurd (false≢true is), λ is _. absurd (false≢true is))

-- ---- order

decided : (one two : ℕ) (later : Ordering) → one ≢ two → ordering_then (nat_cmp one two) later ≡ nat_cmp one two
decided one two later differ =
    elim (nat_cmp one two) as (λ answer. nat_cmp one two ≡ answer → ordering_then answer later ≡ answer) [
      | Less ↦ λ is. refl
      | Equal ↦ λ is. absurd (differ (nat_cmp-IsAntisymmetric one two is))
      | Greater ↦ λ is. refl
    ] refl

module _ (text rest : List ℕ) (count : ℕ) where
  pub order-short : count < length text → length rest ≡ 0 → byte_order (drop count text) (words_of rest) ≡ Greater
  order-short inside none = ap (byte_order (drop count text)) (ap (λ n. words_in (words_for n) rest) none) ∙ ap (λ words. byte_order words []) (drop_more text count 0 inside)

  pub order-end : length text ≤ count → 0 < length rest → byte_order (drop count text) (words_of rest) ≡ Less
  order-end past some = (λ i. byte_order (drop_all count text past i) (words-cons rest some i))

  module _ (inside : count < length text) (some : 0 < length rest) where
    parted : byte_order (drop count text) (words_of rest) ≡ ordering_then (nat_cmp (get_or text count 0) (first_word rest)) (byte_order (drop (count + 1) text) (words_of (drop 8 rest)))
    parted = λ i. byte_order (drop_more text count 0 inside i) (words-cons rest some i)

    pub order-apart : get_or text count 0 ≢ first_word rest → byte_order (drop count text) (words_of rest) ≡ nat_cmp (get_or text count 0) (first_word rest)
    order-apart differ = parted ∙ decided (get_or text count 0) (first_word rest) (byte_order (drop (count + 1) text) (words_of (drop 8 rest))) differ

    pub order-same : get_or text count 0 ≡ first_word rest → byte_order (drop (count + 1) text) (words_of (drop 8 rest)) ≡ byte_order (drop count text) (words_of rest)
    order-same same =
        sym (parted ∙ ap (λ first. ordering_then first (byte_order (drop (count + 1) text) (words_of (drop 8 rest)))) (sym (nat_cmp_is (get_or text count 0) (first_word rest) Equal same)))
