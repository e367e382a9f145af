-- Words of bytes that are read eight at a time, and the shorter word behind them.
use Rattle.std.proofs.Common.{◌≡◌, ◌↔◌, ℕ, zero, suc, ◌+◌, ◌-◌, ◌*◌, ◌/◌, ◌%◌, ◌^◌, ◌<◌, ◌≤◌, List, [], ◌∷◌, ◌++◌, length, take, drop, get_or, set, refl, sym, ap, ◌∙◌, arith, Bool}
use Rattle.std.proofs.Common.{◌&&◌, nat_eq, IsTrue}
use Rattle.std.specs.Int.{from_be_bytes, w16, w32, w64}
use Rattle.std.specs.Simd.{first_chunks}
use Rattle.std.proofs.lemmas.List.{length-drop, length-take-le, drop-drop, drop_all, take_all, get_or-drop, append-nil}
use Rattle.std.proofs.lemmas.Nat.{pow-add, mod-pow-add, mod-mul-add, mod_below, pow_pos}
use Rattle.std.proofs.Math.Nat.{pow-succ'}
use Rattle.judy_records.specs.Texts.{spelled, first_word, words_for, words_in, words_of}
use Rattle.judy_records.proofs.Spelling.{spelled-below, spelled-take, from_be_bytes-spelled, four-spelled, two-spelled}
use Rattle.judy_records.proofs.TextLemmas.{words-written, words-pushed, same-more, both-true}

-- ---- whole words

-- A chunk has eight of the bytes.
chunk-is : (i count : ℕ) (bytes : List ℕ) → i < count → get_or (first_chunks 8 count bytes) i [] ≡ take 8 (drop (8 * i) bytes)
chunk-is i zero bytes inside = absurd (omega arith)
chunk-is zero (suc count) bytes inside = refl
chunk-is (suc i) (suc count) bytes inside =
    let e : 8 + 8 * i ≡ 8 * suc i = omega arith in
    chunk-is i count (drop 8 bytes) (omega arith) ∙ ap (take 8) (drop-drop (8 * i) 8 bytes ∙ ap (λ n. drop n bytes) e)

-- The word that it spells.
chunk-word : (i count : ℕ) (bytes chunk : List ℕ) → i < count → 8 * count ≤ length bytes → chunk ≡ get_or (first_chunks 8 count bytes) i [] → from_be_bytes w64 chunk ≡ first_word (drop (8 * i) bytes)
unfolding first_word
chunk-word i count bytes chunk inside within is =
    let left = length-drop (8 * i) bytes in
    ap (from_be_bytes w64) (is ∙ chunk-is i count bytes inside) ∙ from_be_bytes-spelled (drop (8 * i) bytes) (omega (arith, left))

-- The word of a chunk that is read.
pub read-word : (i : ℕ) (bytes : List ℕ) (chunks : List (List ℕ)) (word : ℕ) → i < length bytes / 8 → chunks ≡ first_chunks 8 (length bytes / 8) bytes →
    word ≡ from_be_bytes w64 (get_or chunks i []) → word ≡ first_word (drop (8 * i) bytes)
read-word i bytes chunks word inside are read = read ∙ chunk-word i (length bytes / 8) bytes (get_or chunks i []) inside (omega arith) (ap (λ chunks. get_or chunks i []) are)

-- ---- the shorter word behind them

regroup : (b p s q t : ℕ) → b * (p * q) + (s * q + t) ≡ (b * p + s) * q + t
regroup b p s q t = grind arith

spelled-none : (width : ℕ) → spelled width [] ≡ 0
spelled-none zero = refl
spelled-none (suc width) = refl

-- Bytes spell what the first of them spell, and behind it what the others do.
spelled-parts : (front back : ℕ) (bytes : List ℕ) → spelled (front + back) bytes ≡ spelled front bytes * 256 ^ back + spelled back (drop front bytes)
spelled-parts zero back bytes = (let e : zero + back ≡ back = omega arith in let s = ap (λ n. spelled n bytes) e in omega (arith, s))
spelled-parts (suc front) back [] =
    let none = spelled-none (suc front + back) in
    let last = spelled-none back in
    omega (arith, none, last)
spelled-parts (suc front) back (byte ∷ bytes) =
    let e : suc front + back ≡ suc (front + back) = omega arith in
    ap (λ n. spelled n (byte ∷ bytes)) e
    ∙ (λ i. byte * pow-add 256 front back i + spelled-parts front back bytes i)
    ∙ regroup byte (256 ^ front) (spelled front bytes) (256 ^ back) (spelled back (drop front bytes))

below-drop : (count : ℕ) (bytes : List ℕ) → ((k : ℕ) → get_or bytes k 0 < 256) → (k : ℕ) → get_or (drop count bytes) k 0 < 256
below-drop count bytes below k = (let e = get_or-drop count bytes k 0 in omega (arith, e, below (count + k)))

-- The word of the last of eight bytes: that of all eight, with the bytes before them shifted out.
shifted : (before behind : ℕ) (bytes : List ℕ) → before + behind ≡ 8 → length bytes ≡ 8 → ((k : ℕ) → get_or bytes k 0 < 256) → spelled 8 bytes * 256 ^ before % 256 ^ 8 ≡ spelled 8 (drop before bytes)
shifted before behind bytes all long below =
    let left = length-drop before bytes in
    let front = spelled before bytes in
    let back = spelled behind (drop before bytes) in
    let whole : spelled 8 bytes ≡ front * 256 ^ behind + back = ap (λ n. spelled n bytes) (sym all) ∙ spelled-parts before behind bytes in
    let turned : behind + before ≡ 8 = omega arith in
    let none : spelled before (drop behind (drop before bytes)) ≡ 0 = ap (spelled before) (drop_all behind (drop before bytes) (omega (arith, left))) ∙ spelled-none before in
    let wanted : spelled 8 (drop before bytes) ≡ back * 256 ^ before =
    (let s = ap (λ n. spelled n (drop before bytes)) (sym turned) ∙ spelled-parts behind before (drop before bytes) in omega (arith, s, none)) in
    let unit : 256 ^ behind * 256 ^ before ≡ 256 ^ 8 = sym (pow-add 256 behind before) ∙ ap (λ n. 256 ^ n) turned in
    let moved : spelled 8 bytes * 256 ^ before ≡ front * 256 ^ 8 + spelled 8 (drop before bytes) =
    ap (λ n. n * 256 ^ before) whole ∙ spread front (256 ^ behind) back (256 ^ before) ∙ (λ i. front * unit i + sym wanted i) in
    ap (λ n. n % 256 ^ 8) moved ∙ mod-mul-add front (256 ^ 8) (spelled 8 (drop before bytes)) (spelled-below 8 (drop before bytes) (below-drop before bytes below))
  where
    spread : (f p b q : ℕ) → (f * p + b) * q ≡ f * (p * q) + b * q
    spread f p b q = grind arith

-- So many bits are so many bytes.
bits-of : (count : ℕ) → 2 ^ (8 * count) ≡ 256 ^ count
bits-of zero = refl
bits-of (suc count) =
    let e : 8 * suc count ≡ 8 + 8 * count = omega arith in
    ap (λ n. 2 ^ n) e ∙ pow-add 2 8 (8 * count) ∙ ap (λ n. 256 * n) (bits-of count) ∙ sym (pow-succ' 256 count)

-- The last word, made of the last eight bytes.
pub last-word : (bytes last : List ℕ) → ((k : ℕ) → get_or bytes k 0 < 256) → 8 ≤ length bytes → 0 < length bytes % 8 → last ≡ drop (length bytes - 8) bytes →
    from_be_bytes w64 last * 2 ^ (64 - length bytes % 8 * 8) % 256 ^ 8 ≡ first_word (drop (8 * (length bytes / 8)) bytes)
unfolding first_word
last-word bytes last below enough some is =
    let over = length bytes % 8 in
    let eight = drop (length bytes - 8) bytes in
    let left = length-drop (length bytes - 8) bytes in
    let long : length eight ≡ 8 = omega (arith, left) in
    let bits : 64 - over * 8 ≡ 8 * (8 - over) = omega arith in
    let there : length bytes - 8 + (8 - over) ≡ 8 * (length bytes / 8) = omega arith in
    (λ i. from_be_bytes w64 (is i) * (ap (λ n. 2 ^ n) bits ∙ bits-of (8 - over)) i % 256 ^ 8)
    ∙ ap (λ n. n * 256 ^ (8 - over) % 256 ^ 8) (whole eight long)
    ∙ shifted (8 - over) over eight (omega arith) long (below-drop (length bytes - 8) bytes below)
    ∙ ap (spelled 8) (drop-drop (8 - over) (length bytes - 8) bytes ∙ ap (λ n. drop n bytes) there)
  where
    whole : (eight : List ℕ) → length eight ≡ 8 → from_be_bytes w64 eight ≡ spelled 8 eight
    whole eight long = ap (from_be_bytes w64) (sym (take_all 8 eight (omega (arith, long)))) ∙ from_be_bytes-spelled eight (omega (arith, long))

-- ---- all words

-- Where bytes are left behind the whole words, a shorter word stands behind these.
pub words-last : (bytes : List ℕ) → 0 < length bytes % 8 → words_of bytes ≡ words_in (length bytes / 8 + 1) bytes
words-last bytes some = (let e : words_for (length bytes) ≡ length bytes / 8 + 1 = omega arith in ap (λ n. words_in n bytes) e)

module _ (bytes : List ℕ) (i at word : ℕ) (ended : i ≡ length bytes / 8) (here : at ≡ i) (some : 0 < length bytes % 8) (is : word ≡ first_word (drop (8 * (length bytes / 8)) bytes)) where
  is-first : word ≡ first_word (drop (8 * i) bytes)
  is-first = is ∙ ap (λ n. first_word (drop (8 * n) bytes)) (sym ended)

  all-words : words_in (i + 1) bytes ≡ words_of bytes
  all-words = ap (λ n. words_in (n + 1) bytes) ended ∙ sym (words-last bytes some)

  -- The shorter word is written over the last of a text.
  pub last-written : (old now : List ℕ) → length old ≡ words_for (length bytes) → now ≡ words_in i bytes ++ drop i old → set now at word ≡ words_of bytes
  last-written old now long written =
      (λ t. set now (here t) (is-first t))
      ∙ words-written old now bytes (drop (8 * i) bytes) i (omega (arith, long, ended, some)) written refl
      ∙ ap (λ more. words_in (i + 1) bytes ++ more) (drop_all (i + 1) old (omega (arith, long, ended, some)))
      ∙ append-nil (words_in (i + 1) bytes)
      ∙ all-words

  -- It is put behind the words of a record.
  pub last-pushed : (old now : List ℕ) (value : ℕ) → now ≡ old ++ value ∷ words_in i bytes → now ++ word ∷ [] ≡ old ++ value ∷ words_of bytes
  last-pushed old now value pushed =
      ap (λ w. now ++ w ∷ []) is-first
      ∙ words-pushed old now bytes (drop (8 * i) bytes) value i pushed refl
      ∙ ap (λ words. old ++ value ∷ words) all-words

  -- Whether it is the last word of a text too.
  pub last-same : (text : List ℕ) (same : Bool) → length text ≡ words_for (length bytes) → (IsTrue same ↔ take i text ≡ words_in i bytes) →
      IsTrue (same && nat_eq (get_or text at 0) word) ↔ text ≡ words_of bytes
  last-same text same long so_far =
      let both = both-true same (get_or text at 0) word in
      let more = same-more text bytes (drop (8 * i) bytes) i (omega (arith, long, ended, some)) refl in
      let whole = take_all (i + 1) text (omega (arith, long, ended, some)) in
      let place : get_or text at 0 ≡ get_or text i 0 = ap (λ n. get_or text n 0) here in (
        λ t. let parts = both.0 t in sym whole ∙ more.0 (so_far.0 parts.0, sym place ∙ parts.1 ∙ is-first) ∙ all-words,
        λ e. let parts = more.1 (whole ∙ e ∙ sym all-words) in both.1 (so_far.1 parts.0) (place ∙ parts.1 ∙ sym is-first),
      )

-- ---- fewer than eight bytes

-- Bytes that are read as the first of them and the last: where both reads have a byte it is shifted out of the second one.
both-ends : (part : ℕ) (bytes : List ℕ) (first last shift : ℕ) → ((k : ℕ) → get_or bytes k 0 < 256) → part ≤ length bytes → length bytes ≤ 2 * part → length bytes ≤ 8
    → first ≡ spelled part bytes → last ≡ spelled part (drop (length bytes - part) bytes) → shift ≡ 256 ^ (8 - length bytes)
    → first * 256 ^ (8 - part) + last * shift % 256 ^ (8 - part) ≡ spelled 8 bytes
both-ends part bytes first last shift below enough few most is-first is-last is-shift =
    let n = length bytes in
    let ending = drop (n - part) bytes in
    let both = spelled (2 * part - n) ending in
    let behind = drop part bytes in
    let own = spelled (n - part) behind in
    let left = length-drop part bytes in
    let halves : (2 * part - n) + (n - part) ≡ part = omega arith in
    let there : n - part + (2 * part - n) ≡ part = omega arith in
    let same : drop (2 * part - n) ending ≡ behind = drop-drop (2 * part - n) (n - part) bytes ∙ ap (λ k. drop k bytes) there in
    let split : last ≡ both * 256 ^ (n - part) + own =
    is-last ∙ ap (λ k. spelled k ending) (sym halves) ∙ spelled-parts (2 * part - n) (n - part) ending ∙ ap (λ bs. both * 256 ^ (n - part) + spelled (n - part) bs) same in
    let unit : 256 ^ (n - part) * 256 ^ (8 - n) ≡ 256 ^ (8 - part) = sym (pow-add 256 (n - part) (8 - n)) ∙ ap (λ k. 256 ^ k) (omega arith) in
    let none : spelled (8 - n) (drop (n - part) behind) ≡ 0 = ap (spelled (8 - n)) (drop_all (n - part) behind (omega (arith, left))) ∙ spelled-none (8 - n) in
    let padded : spelled (8 - part) behind ≡ own * 256 ^ (8 - n) =
    (let e : n - part + (8 - n) ≡ 8 - part = omega arith in
    let s = ap (λ k. spelled k behind) (sym e) ∙ spelled-parts (n - part) (8 - n) behind in omega (arith, s, none)) in
    let moved : last * shift ≡ both * 256 ^ (8 - part) + spelled (8 - part) behind =
    (λ i. split i * is-shift i) ∙ spread both (256 ^ (n - part)) own (256 ^ (8 - n)) ∙ (λ i. both * unit i + sym padded i) in
    let rest : last * shift % 256 ^ (8 - part) ≡ spelled (8 - part) behind =
    ap (λ k. k % 256 ^ (8 - part)) moved ∙ mod-mul-add both (256 ^ (8 - part)) (spelled (8 - part) behind) (spelled-below (8 - part) behind (below-drop part bytes below)) in
    let whole : part + (8 - part) ≡ 8 = omega arith in
    (λ i. is-first i * 256 ^ (8 - part) + rest i) ∙ sym (spelled-parts part (8 - part) bytes) ∙ ap (λ k. spelled k bytes) whole
  where
    spread : (f p b q : ℕ) → (f * p + b) * q ≡ f * (p * q) + b * q
    spread f p b q = grind arith

-- What is cut to fewer bits twice.
cut-twice : (upper lower n : ℕ) → n % 2 ^ (upper + lower) % 2 ^ lower ≡ n % 2 ^ lower
cut-twice upper lower n =
    ap (λ k. k % 2 ^ lower) (mod-pow-add n upper lower)
    ∙ mod-mul-add (n / 2 ^ lower % 2 ^ upper) (2 ^ lower) (n % 2 ^ lower) (mod_below n (2 ^ lower) (pow_pos lower))

-- Both reads are of so many bytes.
short-ends : (part unit : ℕ) (read : List ℕ → ℕ) → ((bytes : List ℕ) → length bytes ≡ part → read bytes ≡ spelled part bytes) → unit ≡ 256 ^ (8 - part) →
    ((n : ℕ) → n % 18446744073709551616 % unit ≡ n % unit)
    → (bytes first last : List ℕ) → ((k : ℕ) → get_or bytes k 0 < 256) → part ≤ length bytes → length bytes < 2 * part → length bytes < 8
    → first ≡ take part bytes → last ≡ drop (length bytes - part) bytes
    → read first * unit + read last * 2 ^ (64 - 8 * length bytes) % 18446744073709551616 % unit ≡ first_word bytes
unfolding first_word
short-ends part unit read spells is-unit cut bytes first last below enough few most is-first is-last =
    let left = length-drop (length bytes - part) bytes in
    let bits : 64 - 8 * length bytes ≡ 8 * (8 - length bytes) = omega arith in
    ap (λ n. read first * unit + n) (cut (read last * 2 ^ (64 - 8 * length bytes)))
    ∙ (λ i. read first * is-unit i + read last * 2 ^ (64 - 8 * length bytes) % is-unit i)
    ∙ both-ends part bytes (read first) (read last) (2 ^ (64 - 8 * length bytes)) below enough (omega (arith, few)) (omega (arith, most))
    (ap read is-first ∙ spells (take part bytes) (length-take-le part bytes enough) ∙ spelled-take part bytes)
    (ap read is-last ∙ spells (drop (length bytes - part) bytes) (omega (arith, left, enough)))
    (ap (λ n. 2 ^ n) bits ∙ bits-of (8 - length bytes))

pub short-four : (bytes first last : List ℕ) → ((k : ℕ) → get_or bytes k 0 < 256) → 4 ≤ length bytes → length bytes < 8
    → first ≡ take 4 bytes → last ≡ drop (length bytes - 4) bytes
    → from_be_bytes w32 first * 4294967296 + from_be_bytes w32 last * 2 ^ (64 - 8 * length bytes) % 18446744073709551616 % 4294967296 ≡ first_word bytes
short-four bytes first last below enough few = short-ends 4 4294967296 (from_be_bytes w32) four-spelled refl (cut-twice 32 32) bytes first last below enough few few

pub short-two : (bytes first last : List ℕ) → ((k : ℕ) → get_or bytes k 0 < 256) → 2 ≤ length bytes → length bytes < 4
    → first ≡ take 2 bytes → last ≡ drop (length bytes - 2) bytes
    → from_be_bytes w16 first * 281474976710656 + from_be_bytes w16 last * 2 ^ (64 - 8 * length bytes) % 18446744073709551616 % 281474976710656 ≡ first_word bytes
short-two bytes first last below enough few = short-ends 2 281474976710656 (from_be_bytes w16) two-spelled refl (cut-twice 16 48) bytes first last below enough few (omega (arith, few))

-- One byte, or none.
pub short-one : (bytes : List ℕ) → length bytes < 2 → get_or bytes 0 0 < 256 → get_or bytes 0 0 * 72057594037927936 % 18446744073709551616 ≡ first_word bytes
unfolding first_word
short-one [] few below = refl
short-one (a ∷ []) few below = omega (arith, below)
short-one (a ∷ b ∷ rest) few below = absurd (omega (arith, few))
