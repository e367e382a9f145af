-- How many keys a map has that is made of others.
use Rattle.std.proofs.Common.{◌≡◌, ℕ, suc, ◌+◌, ◌-◌, ◌≤◌, not, Bool, true, false, cond, T, [], ◌∷◌, ◌++◌, length, filter, Option, Some, None, is_some, refl, sym, ap, ◌∙◌, arith}
use Rattle.std.specs.Option.{option_or}
use Rattle.std.specs.Cmp.{nat_cmp_total}
use Rattle.std.specs.FinMap.{find, empty, entries, entries_sorted, contains_key, get, len, retain_keys, from_sorted, from_entries, is_sorted, nat_cmp-IsAntisymmetric, get-empty}
use Rattle.std.specs.FinMap.{get-entries, get-from_sorted, get-from_entries, len-entries, len-empty, len-insert, entries-from_sorted}
use Rattle.std.specs.FinMap.Entries.{where_key, is_sorted-where_key, find-where_key, below_all}
use Rattle.judy_model.specs.Keys.{word_order}
use Rattle.judy_model.proofs.lemmas.orders.WordOrder.{lt_from_word}
use Rattle.judy_model.proofs.lemmas.maps.Tests.{left_of, right_of, holds_test}
use Rattle.judy_model.specs.TwoMaps.{union, intersection, difference}
use Rattle.judy_combine.specs.Merges.{Pairs, Ascends, met}
use Rattle.judy_sets.specs.Results.{kept, kept_count}
use Rattle.judy_combine.specs.declared.keep.Keep.{Keep}
use Rattle.judy_combine.proofs.Finds.{find-below, find-join}
use Rattle.judy_sets.proofs.MapLaws.{Words, same_words, get-part, get-union, get-intersection, get-difference}

-- The entries of a map ascend.
above : (key low : ℕ) (pairs : Pairs) → low ≤ key + 1 → T (below_all word_order key pairs) → T (is_sorted word_order pairs) → Ascends low pairs
above key low [] less below up = tt
above key low (pair ∷ pairs) less below up =
    let first = lt_from_word key pair.0 (holds_test _ (left_of _ _ below)) in
    (omega (arith, first, less), above pair.0 (pair.0 + 1) pairs (omega arith) (left_of _ _ up) (right_of _ _ up))

ascends_if_sorted : (pairs : Pairs) → T (is_sorted word_order pairs) → Ascends 0 pairs
ascends_if_sorted [] up = tt
ascends_if_sorted (pair ∷ pairs) up = (omega arith, above pair.0 (pair.0 + 1) pairs (omega arith) (left_of _ _ up) (right_of _ _ up))

pub entries_ascend : (map : Words) → Ascends 0 (entries map)
entries_ascend map = ascends_if_sorted (entries map) (entries_sorted map)

-- The entries of a part.
pub entries-part : (map : Words) (test : ℕ → Bool) → entries (retain_keys map test) ≡ where_key word_order test (entries map)
entries-part map test =
    let up = is_sorted-where_key word_order test (entries map) (entries_sorted map) in
    ap entries (same_words (retain_keys map test) (from_sorted {R = word_order} (where_key word_order test (entries map))) (λ key.
    get-part map test key ∙ ap (λ (found : Option ℕ). cond (test key) found None) (get-entries map key)
    ∙ sym (get-from_sorted word_order (where_key word_order test (entries map)) key up
    ∙ find-where_key word_order test key (λ other tied. ap test (sym (nat_cmp-IsAntisymmetric key other tied))) (entries map))))
    ∙ entries-from_sorted word_order (where_key word_order test (entries map)) up

pub len-part : (map : Words) (test : ℕ → Bool) → len (retain_keys map test) ≡ length (where_key word_order test (entries map))
len-part map test = len-entries (retain_keys map test) ∙ ap length (entries-part map test)

-- ---- how many keys both have

met-length : (es fs : Pairs) → length (filter (λ e. is_some (find word_order e.0 fs)) es) ≡ met es fs
met-length [] fs = refl
met-length (e ∷ es) fs =
    elim (is_some (find word_order e.0 fs)) as (λ b. length (cond b (e ∷ filter (λ x. is_some (find word_order x.0 fs)) es) (filter (λ x. is_some (find word_order x.0 fs)) es)) ≡
    cond b (suc (met es fs)) (met es fs)) [
      | true ↦ ap suc (met-length es fs)
      | false ↦ met-length es fs
    ]

filter_alike : (p q : ℕ × ℕ → Bool) (es : Pairs) → ((e : ℕ × ℕ) → p e ≡ q e) → filter p es ≡ filter q es
filter_alike p q [] same = refl
filter_alike p q (e ∷ es) same = λ t. cond (same e t) (e ∷ filter_alike p q es same t) (filter_alike p q es same t)

pub len-intersection : (one other : Words) → len (intersection one other) ≡ met (entries one) (entries other)
unfolding intersection
len-intersection one other =
    len-part one (contains_key other)
    ∙ ap length (filter_alike (λ e. contains_key other e.0) (λ e. is_some (find word_order e.0 (entries other))) (entries one) (λ e. ap is_some (get-entries other e.0)))
    ∙ met-length (entries one) (entries other)

-- ---- a union

with_first : (b : Bool) (n m common long : ℕ) → n + common ≡ long + m → cond b n (n + 1) + cond b (suc common) common ≡ suc long + m
with_first true n m common long is = omega (arith, is)
with_first false n m common long is = omega (arith, is)

len_joined : (low : ℕ) (es fs : Pairs) → Ascends low es → len (from_entries {R = word_order} (es ++ fs)) + met es fs ≡ length es + len (from_entries {R = word_order} fs)
len_joined low [] fs up = omega arith
len_joined low (e ∷ es) fs up =
    let all : Words = from_entries (es ++ fs) in
    let found : get all e.0 ≡ find word_order e.0 fs = get-from_entries nat_cmp_total (es ++ fs) e.0 ∙ find-join e.0 es fs ∙
    ap (λ (o : Option ℕ). option_or o (find word_order e.0 fs)) (find-below e.0 (e.0 + 1) es (omega arith) up.1) in
    let long = len-insert nat_cmp_total all e.0 e.1 ∙ ap (λ (o : Option ℕ). cond (is_some o) (len all) (len all + 1)) found in
    let rest = with_first (is_some (find word_order e.0 fs)) (len all) (len (from_entries {R = word_order} fs)) (met es fs) (length es) (len_joined (e.0 + 1) es fs up.1) in
    ap (λ (n : ℕ). n + met (e ∷ es) fs) long ∙ rest

own_entries : (map : Words) → from_entries (entries map) ≡ map
own_entries map = same_words (from_entries (entries map)) map (λ key. get-from_entries nat_cmp_total (entries map) key ∙ sym (get-entries map key))

pub len-union : (one other : Words) → len (union one other) + len (intersection one other) ≡ len one + len other
unfolding union
len-union one other =
    ap (λ (n : ℕ). len (from_entries {R = word_order} (entries one ++ entries other)) + n) (len-intersection one other)
    ∙ len_joined 0 (entries one) (entries other) (entries_ascend one)
    ∙ (λ t. sym (len-entries one) t + len (own_entries other t))

-- ---- what one of them lacks

halves : (p : ℕ × ℕ → Bool) (es : Pairs) → length (filter (λ e. not (p e)) es) + length (filter p es) ≡ length es
halves p [] = refl
halves p (e ∷ es) =
    let rest = halves p es in
    elim (p e) as (λ b. length (cond (not b) (e ∷ filter (λ x. not (p x)) es) (filter (λ x. not (p x)) es)) + length (cond b (e ∷ filter p es) (filter p es)) ≡ suc (length es)) [
      | true ↦ omega (arith, rest)
      | false ↦ omega (arith, rest)
    ]

-- The keys that pass a test, and those that don't.
pub len-parts : (map : Words) (test : ℕ → Bool) → len (retain_keys map (λ key. not (test key))) + len (retain_keys map test) ≡ len map
len-parts map test = (λ t. len-part map (λ key. not (test key)) t + len-part map test t) ∙ halves (λ e. test e.0) (entries map) ∙ sym (len-entries map)

pub len-difference : (one other : Words) → len (difference one other) + len (intersection one other) ≡ len one
unfolding difference intersection
len-difference one other = len-parts one (contains_key other)

-- Two maps without a common key.
none_common : (ours theirs : Option ℕ) → cond (is_some (cond (not (is_some ours)) theirs None)) ours None ≡ None
none_common None None = refl
none_common None (Some w) = refl
none_common (Some v) theirs = refl

apart_empty : (one other : Words) → intersection one (difference other one) ≡ empty
apart_empty one other = same_words _ _ (λ key.
    get-intersection one (difference other one) key
    ∙ ap (λ (o : Option ℕ). cond (is_some o) (get one key) None) (get-difference other one key)
    ∙ none_common (get one key) (get other key)
    ∙ sym (get-empty word_order key))

same_join : (ours theirs : Option ℕ) → option_or ours (cond (not (is_some ours)) theirs None) ≡ option_or ours theirs
same_join None theirs = refl
same_join (Some v) theirs = refl

by_parts : (one other : Words) → union one (difference other one) ≡ union one other
by_parts one other = same_words _ _ (λ key.
    get-union one (difference other one) key ∙ ap (option_or (get one key)) (get-difference other one key) ∙ same_join (get one key) (get other key) ∙ sym (get-union one other key))

-- The keys that the other one has alone: all but those that both have.
pub len-rest : (one other : Words) → len (difference other one) + len (intersection one other) ≡ len other
len-rest one other =
    let whole = len-union one other in
    let disjoint = len-union one (difference other one) in
    let none = ap len (apart_empty one other) ∙ len-empty word_order ℕ in
    let same = ap len (by_parts one other) in
    omega (arith, whole, disjoint, none, same)

-- ---- what is kept

by_flags : (both left : Bool) (p : ℕ × ℕ → Bool) (es : Pairs) → length (filter (λ e. cond (p e) both left) es) ≡ cond both (length (filter p es)) 0 + cond left (length (filter (λ e. not (p e)) es)) 0
by_flags true true p [] = refl
by_flags true false p [] = refl
by_flags false true p [] = refl
by_flags false false p [] = refl
by_flags true true p (e ∷ es) =
    let rest = by_flags true true p es in
    elim (p e) as (λ b. length (cond (cond b true true) (e ∷ filter (λ x. cond (p x) true true) es) (filter (λ x. cond (p x) true true) es)) ≡
    length (cond b (e ∷ filter p es) (filter p es)) + length (cond (not b) (e ∷ filter (λ x. not (p x)) es) (filter (λ x. not (p x)) es))) [
      | true ↦ omega (arith, rest)
      | false ↦ omega (arith, rest)
    ]
by_flags true false p (e ∷ es) =
    let rest = by_flags true false p es in
    elim (p e) as (λ b. length (cond (cond b true false) (e ∷ filter (λ x. cond (p x) true false) es) (filter (λ x. cond (p x) true false) es)) ≡ length (cond b (e ∷ filter p es) (filter p es)) + 0) [
      | true ↦ omega (arith, rest)
      | false ↦ omega (arith, rest)
    ]
by_flags false true p (e ∷ es) =
    let rest = by_flags false true p es in
    elim (p e) as (λ b. length (cond (cond b false true) (e ∷ filter (λ x. cond (p x) false true) es) (filter (λ x. cond (p x) false true) es)) ≡
    0 + length (cond (not b) (e ∷ filter (λ x. not (p x)) es) (filter (λ x. not (p x)) es))) [
      | true ↦ omega (arith, rest)
      | false ↦ omega (arith, rest)
    ]
by_flags false false p (e ∷ es) =
    let rest = by_flags false false p es in
    elim (p e) as (λ b. length (cond (cond b false false) (e ∷ filter (λ x. cond (p x) false false) es) (filter (λ x. cond (p x) false false) es)) ≡ 0) [
      | true ↦ rest
      | false ↦ rest
    ]

kept_apart : (b right : Bool) (ours theirs : Option ℕ) → cond (is_some (cond right (cond (not (is_some ours)) theirs None) None)) (cond b ours None) None ≡ None
kept_apart true true None None = refl
kept_apart true true None (Some w) = refl
kept_apart true true (Some v) theirs = refl
kept_apart false true None None = refl
kept_apart false true None (Some w) = refl
kept_apart false true (Some v) theirs = refl
kept_apart b false ours theirs = refl

get_rest : (right : Bool) (one other : Words) (key : ℕ) → get (cond right (difference other one) empty) key ≡ cond right (cond (not (contains_key one key)) (get other key) None) None
get_rest true one other key = get-difference other one key
get_rest false one other key = get-empty word_order key

len_rest : (right : Bool) (one other : Words) → len (cond right (difference other one) empty) ≡ cond right (len other - len (intersection one other)) 0
len_rest true one other = let rest = len-rest one other in omega (arith, rest)
len_rest false one other = len-empty word_order ℕ

lacking : (one other : Words) → length (filter (λ e. not (contains_key other e.0)) (entries one)) ≡ len one - len (intersection one other)
unfolding intersection
lacking one other =
    let all = halves (λ e. contains_key other e.0) (entries one) in
    let long = len-entries one in
    let common = len-part one (contains_key other) in
    omega (arith, all, long, common)

having : (one other : Words) → length (filter (λ e. contains_key other e.0) (entries one)) ≡ len (intersection one other)
unfolding intersection
having one other = sym (len-part one (contains_key other))

len_front : (both left : Bool) (one other : Words) → len (retain_keys one (λ key. cond (contains_key other key) both left)) ≡
    cond both (len (intersection one other)) 0 + cond left (len one - len (intersection one other)) 0
len_front both left one other =
    len-part one (λ key. cond (contains_key other key) both left)
    ∙ by_flags both left (λ e. contains_key other e.0) (entries one)
    ∙ (λ t. cond both (having one other t) 0 + cond left (lacking one other t) 0)

-- How many keys are kept.
pub len-kept : (keep : Keep) (one other : Words) → len (kept keep one other) ≡ kept_count keep (len one) (len other) (len (intersection one other))
unfolding kept
len-kept keep one other =
    let front : Words = retain_keys one (λ key. cond (contains_key other key) keep.both keep.left) in
    let back : Words = cond keep.right (difference other one) empty in
    let none : intersection front back ≡ empty = same_words (intersection front back) empty (λ key.
    get-intersection front back key
    ∙ (λ t. cond (is_some (get_rest keep.right one other key t)) (get-part one (λ k. cond (contains_key other k) keep.both keep.left) key t) None)
    ∙ kept_apart (cond (contains_key other key) keep.both keep.left) keep.right (get one key) (get other key)
    ∙ sym (get-empty word_order key)) in
    let nothing = ap len none ∙ len-empty word_order ℕ in
    let joined = len-union front back in
    let first = len_front keep.both keep.left one other in
    let second = len_rest keep.right one other in
    omega (arith, nothing, joined, first, second)
