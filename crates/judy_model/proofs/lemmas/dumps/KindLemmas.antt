-- The arrays of the four kinds: what is read is spelled so, and what is spelled so is read.
use Rattle.std.proofs.Common.{◌≡◌, ℕ, ◌≤◌, true, false, cond, ◌==◌, leb, ltb, List, [], ◌∷◌, length, map, None, Equal, refl, sym, subst, arith, All}
use Rattle.std.specs.declared.cmp.Ordering.{Ordering}
use Rattle.std.specs.Ordering.{nat_cmp, ordering_then}
use Rattle.std.specs.Cmp.{IsTotalOrder, nat_cmp_total, on_total, then_total}
use Rattle.std.specs.Cmp.Lexicographic.{nat_list_cmp_total}
use Rattle.std.specs.FinMap.{IsAntisymmetric, len, nat_cmp-IsAntisymmetric, slice_cmp-IsAntisymmetric}
use Rattle.std.specs.FinMap as map
use Rattle.std.proofs.lemmas.Bool.{eqb-true, eqb-false, ltb-true, leb-true, and_parts}
use Rattle.std.proofs.lemmas.List.Elements.{All-nil, All-cons, All-head, All-tail, All-weaker}
use Rattle.judy_model.specs.Keys.{IsWord, IsStringKey, IsBytesKey, word_order, byte_order}
use Rattle.judy_model.specs.Arrays.{ArrayOf, IsArrayOf, ArrayValue, judy1, judyl, judysl, judyhs, IsArray, limit_of, len_of}
use Rattle.judy_model.specs.Fields.{Parser}
use Rattle.judy_model.specs.DumpText as text
use Rattle.judy_model.specs.DumpText.{Version, length_order, entries_by, kind_number}
use Rattle.judy_model.specs.DumpGrammar as grammar
use Rattle.judy_model.specs.DumpGrammar.{filled, contents, is_kind}
use Rattle.judy_model.proofs.lemmas.dumps.FieldLemmas.{IsSpelled, done-IsSpelled, retold-IsSpelled}
use Rattle.judy_model.proofs.lemmas.dumps.StringKeys.{word-IsSpelled, string-IsSpelled}
use Rattle.judy_model.proofs.lemmas.dumps.SharedKeys.{key_text, beside-entries_text, string_key-IsSpelled}
use Rattle.judy_model.proofs.lemmas.dumps.EntryLemmas.{entries_text, entries_text-alike}
use Rattle.judy_model.proofs.lemmas.dumps.ContentsLemmas.{entries-IsListing, entries_by-IsListing, IsFilled, filled-IsSpelled}

-- ---- orders

-- The order of a dump's judyhs keys is total, and tells all keys apart.
pub length_order-total : IsTotalOrder length_order
length_order-total = then_total (on_total length nat_cmp_total) nat_list_cmp_total

later_Equal : (one other : Ordering) → ordering_then one other ≡ Equal → other ≡ Equal
later_Equal Equal other e = e
later_Equal other_answer other e = absurd cc

byte_order-IsAntisymmetric : IsAntisymmetric byte_order
byte_order-IsAntisymmetric = slice_cmp-IsAntisymmetric nat_cmp-IsAntisymmetric

pub length_order-IsAntisymmetric : IsAntisymmetric length_order
length_order-IsAntisymmetric left right e = byte_order-IsAntisymmetric left right (later_Equal (nat_cmp (length left) (length right)) (byte_order left right) e)

-- ---- arrays

module _ {K : Type 0} (A : K → Type 0) (B : ℕ → Type 0) where
  entries_are : (pairs : List (K × ℕ)) → All A (map (λ e. e.0) pairs) → All B (map (λ e. e.1) pairs) → All (λ pair. A pair.0 × B pair.1) pairs
  entries_are [] keys values = All-nil (λ pair. A pair.0 × B pair.1)
  entries_are (pair ∷ pairs) keys values =
      All-cons (λ pair. A pair.0 × B pair.1) pair pairs (All-head A pair.0 (map (λ e. e.0) pairs) keys, All-head B pair.1 (map (λ e. e.1) pairs) values)
      (entries_are pairs (All-tail A pair.0 (map (λ e. e.0) pairs) keys) (All-tail B pair.1 (map (λ e. e.1) pairs) values))

  keys_are : (pairs : List (K × ℕ)) → All (λ pair. A pair.0 × B pair.1) pairs → All A (map (λ e. e.0) pairs)
  keys_are [] all = All-nil A
  keys_are (pair ∷ pairs) all =
      All-cons A pair.0 (map (λ e. e.0) pairs) (All-head (λ pair. A pair.0 × B pair.1) pair pairs all).0 (keys_are pairs (All-tail (λ pair. A pair.0 × B pair.1) pair pairs all))

  values_are : (pairs : List (K × ℕ)) → All (λ pair. A pair.0 × B pair.1) pairs → All B (map (λ e. e.1) pairs)
  values_are [] all = All-nil B
  values_are (pair ∷ pairs) all =
      All-cons B pair.1 (map (λ e. e.1) pairs) (All-head (λ pair. A pair.0 × B pair.1) pair pairs all).1 (values_are pairs (All-tail (λ pair. A pair.0 × B pair.1) pair pairs all))

last_kind : (kind : ℕ) → is_kind kind ≡ true → kind == 1 ≡ false → kind == 2 ≡ false → kind == 3 ≡ false → kind ≡ 4
last_kind kind known not_one not_two not_three =
    let both = and_parts (ltb 0 kind) (leb kind 4) known in
    let above = ltb-true 0 kind both.0 in
    let below = leb-true kind 4 both.1 in
    let one = eqb-false kind 1 not_one in
    let two = eqb-false kind 2 not_two in
    let three = eqb-false kind 3 not_three in
    omega arith

module _ (version : Version) (limit count : ℕ) (some : 1 ≤ limit) (small : limit ≤ 4294967295) (within : count ≤ limit) where
  -- An array of a limit that scripts give, with no more keys than that.
  IsArrayOf-filled : {K : Type 0} {order : K → K → Ordering} (IsKey : K → Type 0) (inside : ArrayOf order) → inside.limit ≡ limit → len inside.map ≡ count →
      All (λ pair. IsKey pair.0 × IsWord pair.1) (map.entries inside.map) → IsArrayOf IsKey inside
  IsArrayOf-filled IsKey inside same long all = record {
    holds_some = omega arith;
    limit_is_word = omega arith;
    within_limit = omega arith;
    keys_are = keys_are IsKey IsWord (map.entries inside.map) all;
    values_are = values_are IsKey IsWord (map.entries inside.map) all;
  }

  -- The array that is read behind a kind, a limit and a number of keys.
  abbrev pub IsContents : ℕ → ArrayValue → Type 0
  IsContents kind array = (kind_number array ≡ kind) × (limit_of array ≡ limit) × (len_of array ≡ count) × IsArray array

  set_inside : (array : ArrayValue) → IsContents 1 array → IsFilled word_order map.entries IsWord (λ value. value ≡ 0) (λ before. text.word) (λ value. [])
      (λ before. grammar.word) grammar.no_value judy1 (text.contents version) limit count array
  set_inside (judy1 inside) is = (inside, refl, is.1, is.2, entries_are IsWord (λ value. value ≡ 0) (map.entries inside.map) is.3.0.keys_are is.3.1)
  set_inside (judyl inside) is = absurd (let k = is.0 in omega arith)
  set_inside (judysl inside) is = absurd (let k = is.0 in omega arith)
  set_inside (judyhs inside) is = absurd (let k = is.0 in omega arith)

  words_inside : (array : ArrayValue) → IsContents 2 array → IsFilled word_order map.entries IsWord IsWord (λ before. text.word) text.word
      (λ before. grammar.word) grammar.word judyl (text.contents version) limit count array
  words_inside (judy1 inside) is = absurd (let k = is.0 in omega arith)
  words_inside (judyl inside) is = (inside, refl, is.1, is.2, entries_are IsWord IsWord (map.entries inside.map) is.3.keys_are is.3.values_are)
  words_inside (judysl inside) is = absurd (let k = is.0 in omega arith)
  words_inside (judyhs inside) is = absurd (let k = is.0 in omega arith)

  strings_inside : (array : ArrayValue) → IsContents 3 array → IsFilled byte_order map.entries IsStringKey IsWord (key_text version) text.word
      (grammar.string_key version) grammar.word judysl (text.contents version) limit count array
  strings_inside (judy1 inside) is = absurd (let k = is.0 in omega arith)
  strings_inside (judyl inside) is = absurd (let k = is.0 in omega arith)
  strings_inside (judysl inside) is = (inside, refl, is.1, is.2, entries_are IsStringKey IsWord (map.entries inside.map) is.3.keys_are is.3.values_are)
  strings_inside (judyhs inside) is = absurd (let k = is.0 in omega arith)

  byte_strings_inside : (array : ArrayValue) → IsContents 4 array → IsFilled length_order (entries_by length_order) IsBytesKey IsWord (λ before. text.string) text.word
      (λ before. grammar.string) grammar.word judyhs (text.contents version) limit count array
  byte_strings_inside (judy1 inside) is = absurd (let k = is.0 in omega arith)
  byte_strings_inside (judyl inside) is = absurd (let k = is.0 in omega arith)
  byte_strings_inside (judysl inside) is = absurd (let k = is.0 in omega arith)
  byte_strings_inside (judyhs inside) is = (inside, refl, is.1, is.2, entries_are IsBytesKey IsWord (map.entries inside.map) is.3.keys_are is.3.values_are)

  -- The text of an array's entries, each by the key before it.
  set_text : (inside : ArrayOf word_order) → text.contents version (judy1 inside) ≡ entries_text (λ before. text.word) (λ value. []) None (map.entries inside.map)
  set_text inside = entries_text-alike text.word (λ value. []) None (map.entries inside.map)

  words_text : (inside : ArrayOf word_order) → text.contents version (judyl inside) ≡ entries_text (λ before. text.word) text.word None (map.entries inside.map)
  words_text inside = entries_text-alike text.word text.word None (map.entries inside.map)

  strings_text : (inside : ArrayOf byte_order) → text.contents version (judysl inside) ≡ entries_text (key_text version) text.word None (map.entries inside.map)
  strings_text inside = beside-entries_text version None (map.entries inside.map)

  byte_strings_text : (inside : ArrayOf byte_order) → text.contents version (judyhs inside) ≡ entries_text (λ before. text.string) text.word None (entries_by length_order inside.map)
  byte_strings_text inside = entries_text-alike text.string text.word None (entries_by length_order inside.map)

  set-IsSpelled : IsSpelled (IsContents 1) (text.contents version) (filled judy1 limit (grammar.entries word_order (λ before. grammar.word) grammar.no_value None count))
  set-IsSpelled =
      retold-IsSpelled (IsFilled word_order map.entries IsWord (λ value. value ≡ 0) (λ before. text.word) (λ value. []) (λ before. grammar.word) grammar.no_value judy1
      (text.contents version) limit count) (IsContents 1) (text.contents version) _
      (λ array is. subst (IsContents 1) (sym is.1) (
        refl,
        is.2,
        is.3,
        (
          IsArrayOf-filled IsWord is.0 is.2 is.3 (All-weaker (λ pair. IsWord pair.0 × (pair.1 ≡ 0)) (λ pair. IsWord pair.0 × IsWord pair.1)
              (λ pair both. (both.0, (let e = both.1 in omega arith))) (map.entries is.0.map) is.4),
          values_are IsWord (λ value. value ≡ 0) (map.entries is.0.map) is.4,
        ),
      ))
      set_inside
      (filled-IsSpelled word_order map.entries IsWord (λ value. value ≡ 0) (λ before. text.word) (λ value. []) (λ before. grammar.word) grammar.no_value judy1 (text.contents version) limit count
      (entries-IsListing nat_cmp_total nat_cmp-IsAntisymmetric) (λ before _. word-IsSpelled) (done-IsSpelled 0) set_text)

  words-IsSpelled : IsSpelled (IsContents 2) (text.contents version) (filled judyl limit (grammar.entries word_order (λ before. grammar.word) grammar.word None count))
  words-IsSpelled =
      retold-IsSpelled (IsFilled word_order map.entries IsWord IsWord (λ before. text.word) text.word (λ before. grammar.word) grammar.word judyl (text.contents version) limit count)
      (IsContents 2) (text.contents version) _
      (λ array is. subst (IsContents 2) (sym is.1) (refl, is.2, is.3, IsArrayOf-filled IsWord is.0 is.2 is.3 is.4))
      words_inside
      (filled-IsSpelled word_order map.entries IsWord IsWord (λ before. text.word) text.word (λ before. grammar.word) grammar.word judyl (text.contents version) limit count
      (entries-IsListing nat_cmp_total nat_cmp-IsAntisymmetric) (λ before _. word-IsSpelled) word-IsSpelled words_text)

  strings-IsSpelled : IsSpelled (IsContents 3) (text.contents version) (filled judysl limit (grammar.entries byte_order (grammar.string_key version) grammar.word None count))
  strings-IsSpelled =
      retold-IsSpelled (IsFilled byte_order map.entries IsStringKey IsWord (key_text version) text.word (grammar.string_key version) grammar.word judysl (text.contents version) limit count)
      (IsContents 3) (text.contents version) _
      (λ array is. subst (IsContents 3) (sym is.1) (refl, is.2, is.3, IsArrayOf-filled IsStringKey is.0 is.2 is.3 is.4))
      strings_inside
      (filled-IsSpelled byte_order map.entries IsStringKey IsWord (key_text version) text.word (grammar.string_key version) grammar.word judysl (text.contents version) limit count
      (entries-IsListing nat_list_cmp_total byte_order-IsAntisymmetric) (string_key-IsSpelled version) word-IsSpelled strings_text)

  byte_strings-IsSpelled : IsSpelled (IsContents 4) (text.contents version) (filled judyhs limit (grammar.entries length_order (λ before. grammar.string) grammar.word None count))
  byte_strings-IsSpelled =
      retold-IsSpelled (IsFilled length_order (entries_by length_order) IsBytesKey IsWord (λ before. text.string) text.word (λ before. grammar.string) grammar.word judyhs
      (text.contents version) limit count) (IsContents 4) (text.contents version) _
      (λ array is. subst (IsContents 4) (sym is.1) (refl, is.2, is.3, IsArrayOf-filled IsBytesKey is.0 is.2 is.3 is.4))
      byte_strings_inside
      (filled-IsSpelled length_order (entries_by length_order) IsBytesKey IsWord (λ before. text.string) text.word (λ before. grammar.string) grammar.word judyhs (text.contents version) limit count
      (entries_by-IsListing length_order nat_list_cmp_total byte_order-IsAntisymmetric length_order-total length_order-IsAntisymmetric) (λ before _. string-IsSpelled) word-IsSpelled byte_strings_text)

  abbrev not_words : ℕ → Parser ArrayValue
  not_words kind =
      cond (kind == 3) (filled judysl limit (grammar.entries byte_order (grammar.string_key version) grammar.word None count))
      (filled judyhs limit (grammar.entries length_order (λ before. grammar.string) grammar.word None count))

  abbrev not_set : ℕ → Parser ArrayValue
  not_set kind = cond (kind == 2) (filled judyl limit (grammar.entries word_order (λ before. grammar.word) grammar.word None count)) (not_words kind)

  -- What stands behind an array's kind, its limit and the number of its keys.
  pub contents-IsSpelled : (kind : ℕ) → is_kind kind ≡ true → IsSpelled (IsContents kind) (text.contents version) (contents version kind limit count)
  contents-IsSpelled kind known =
      elim (kind == 1) as (λ b. kind == 1 ≡ b → IsSpelled (IsContents kind) (text.contents version) (cond b
      (filled judy1 limit (grammar.entries word_order (λ before. grammar.word) grammar.no_value None count)) (not_set kind))) [
        | true ↦ λ is. subst (λ k. IsSpelled (IsContents k) (text.contents version) (filled judy1 limit (grammar.entries word_order (λ before. grammar.word) grammar.no_value None count)))
            (sym (eqb-true kind 1 is)) set-IsSpelled
        | false ↦ λ not_one. elim (kind == 2) as (λ b. kind == 2 ≡ b → IsSpelled (IsContents kind) (text.contents version)
            (cond b (filled judyl limit (grammar.entries word_order (λ before. grammar.word) grammar.word None count)) (not_words kind))) [
              | true ↦ λ is. subst (λ k. IsSpelled (IsContents k) (text.contents version) (filled judyl limit (grammar.entries word_order (λ before. grammar.word) grammar.word None count)))
                  (sym (eqb-true kind 2 is)) words-IsSpelled
              | false ↦ λ not_two. elim (kind == 3) as (λ b. kind == 3 ≡ b → IsSpelled (IsContents kind) (text.contents version)
                  (cond b (filled judysl limit (grammar.entries byte_order (grammar.string_key version) grammar.word None count))
                  (filled judyhs limit (grammar.entries length_order (λ before. grammar.string) grammar.word None count)))) [
                    | true ↦ λ is. subst (λ k. IsSpelled (IsContents k) (text.contents version) (filled judysl limit
                        (grammar.entries byte_order (grammar.string_key version) grammar.word None count))) (sym (eqb-true kind 3 is)) strings-IsSpelled
                    | false ↦ λ not_three. subst (λ k. IsSpelled (IsContents k) (text.contents version) (filled judyhs limit
                        (grammar.entries length_order (λ before. grammar.string) grammar.word None count))) (sym (last_kind kind known not_one not_two not_three)) byte_strings-IsSpelled
                  ] refl
            ] refl
      ] refl
