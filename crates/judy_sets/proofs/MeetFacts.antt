-- How many keys of pairs are sought among others.
use Rattle.std.proofs.Common.{◌≡◌, ◌≢◌, ℕ, suc, ◌+◌, ◌<◌, ◌≤◌, ◌||◌, Bool, true, false, cond, not, ⊎_elim, [], ◌∷◌, ◌++◌, length, filter, Some, is_some}
use Rattle.std.proofs.Common.{refl, sym, ap, ◌∙◌, arith, take, get_or, slice_get, nat_lt, lt-ltb}
use Rattle.std.specs.FinMap.Entries.{where_key}
use Rattle.std.proofs.lemmas.Bool.{eq-eqb, ne_eqb, cases_lt}
use Rattle.std.proofs.lemmas.List.{append-nil, take_more}
use Rattle.std.proofs.lemmas.Option.{same_Some, slice_get_within, slice_get-get_or}
use Rattle.judy_model.specs.Keys.{word_order}
use Rattle.judy_bits.specs.ByteSets.{has}
use Rattle.judy_leaf.specs.KeyLists.{keys_of, shift}
use Rattle.judy_node.specs.Trees.{Pairs, IsMap}
use Rattle.judy_query.specs.Maps.{map_of}
use Rattle.judy_query.specs.Parts.{value_of}
use Rattle.judy_query.proofs.Finds.{part-value}
use Rattle.judy_query.proofs.Links.{get_is}
use Rattle.judy_sets.specs.LookUps.{is_wanted}
use Rattle.judy_sets.specs.Meets.{is_sought, found, IsCounted}
use Rattle.judy_combine.proofs.Finds.{same_or, find-same, find-apart}

-- One more, where a test holds.
one_or : (b : Bool) (n m : ℕ) → cond b (suc n) n + m ≡ cond b (suc (n + m)) (n + m)
one_or true n m = omega arith
one_or false n m = omega arith

pub found-join : (wanted : Bool) (by : ℕ) (one more others : Pairs) → found wanted by one others + found wanted by more others ≡ found wanted by (one ++ more) others
unfolding found
found-join wanted by [] more others = omega arith
found-join wanted by (pair ∷ one) more others =
    one_or (is_sought wanted others (by + pair.0)) (found wanted by one others) (found wanted by more others)
    ∙ ap (λ n. cond (is_sought wanted others (by + pair.0)) (suc n) n) (found-join wanted by one more others)

pub found-shift : (wanted : Bool) (by more both : ℕ) (pairs others : Pairs) → both ≡ by + more → found wanted by (shift more pairs) others ≡ found wanted both pairs others
unfolding found
found-shift wanted by more both [] others sum = refl
found-shift wanted by more both (pair ∷ pairs) others sum =
    let here : by + (more + pair.0) ≡ both + pair.0 = omega arith in
    λ t. cond (is_sought wanted others (here t)) (suc (found-shift wanted by more both pairs others sum t)) (found-shift wanted by more both pairs others sum t)

pub found-most : (wanted : Bool) (by : ℕ) (pairs others : Pairs) → found wanted by pairs others ≤ length pairs
unfolding found
found-most wanted by [] others = omega arith
found-most wanted by (pair ∷ pairs) others =
    let rest = found-most wanted by pairs others in
    elim (is_sought wanted others (by + pair.0)) as (λ b. cond b (suc (found wanted by pairs others)) (found wanted by pairs others) ≤ suc (length pairs)) [
      | true ↦ omega arith
      | false ↦ omega arith
    ]

pub found-none : (wanted : Bool) (by : ℕ) (pairs others : Pairs) → pairs ≡ [] → found wanted by pairs others ≡ 0
unfolding found
found-none wanted by pairs others none = ap (λ (ps : Pairs). found wanted by ps others) none

pub counted_as : (enough all count : ℕ) → count ≡ all → IsCounted enough all count
counted_as enough all count same = record { most = omega arith; exact = λ _. same }

found-one : (wanted : Bool) (by : ℕ) (pair : ℕ × ℕ) (others : Pairs) → cond (is_sought wanted others (by + pair.0)) 1 0 ≡ found wanted by (pair ∷ []) others
unfolding found
found-one wanted by pair others = elim (is_sought wanted others (by + pair.0)) as (λ b. cond b 1 0 ≡ cond b (suc 0) 0) [ true ↦ refl | false ↦ refl ]

-- Where more than all of them are enough, all are counted.
pub all_counted : (most all count wanted : ℕ) → IsCounted most all count → all ≤ most → all ≡ wanted → count ≡ wanted
all_counted most all count wanted counted small same = ⊎_elim
    (λ (less : count < most). counted.exact less ∙ same)
    (λ (full : most ≤ count). let few = counted.most in omega arith)
    (cases_lt count most)

-- Where one is enough, there are some where some are counted.
pub some_counted : (all count : ℕ) → IsCounted 1 all count → nat_lt 0 count ≡ nat_lt 0 all
some_counted all count counted = ⊎_elim
    (λ (none : count < 1). ap (nat_lt 0) (counted.exact none))
    (λ (some : 1 ≤ count). let few = counted.most in lt-ltb 0 count (omega arith) ∙ sym (lt-ltb 0 all (omega arith)))
    (cases_lt count 1)

-- One more of some pairs.
pub found-more : (wanted : Bool) (by at : ℕ) (pairs others : Pairs) (pair : ℕ × ℕ) → slice_get pairs at ≡ Some pair
    → found wanted by (take at pairs) others + cond (is_sought wanted others (by + pair.0)) 1 0 ≡ found wanted by (take (at + 1) pairs) others
found-more wanted by at pairs others pair there =
    let within = slice_get_within pairs at pair there in
    let last : get_or pairs at pair ≡ pair = same_Some (get_or pairs at pair) pair (sym (slice_get-get_or pairs at pair within) ∙ there) in
    ap (λ n. found wanted by (take at pairs) others + n) (found-one wanted by pair others ∙ ap (λ (one : ℕ × ℕ). found wanted by (one ∷ []) others) (sym last))
    ∙ found-join wanted by (take at pairs) (get_or pairs at pair ∷ []) others
    ∙ ap (λ (ps : Pairs). found wanted by ps others) (sym (take_more pairs at pair within))

-- What is found hangs on what stands at the keys alone.
pub found-alike : (wanted : Bool) (words low top by rest : ℕ) (pairs others part : Pairs) → IsMap words low top pairs
    → ((key : ℕ) → key < top → value_of others (by + key) ≡ value_of part (rest + key)) → found wanted by pairs others ≡ found wanted rest pairs part
unfolding found
found-alike wanted words low top by rest [] others part map same = refl
found-alike wanted words low top by rest (pair ∷ pairs) others part map same =
    let here = same pair.0 map.1 in
    let more = found-alike wanted words (pair.0 + 1) top by rest pairs others part map.3 same in
    λ t. cond (cond wanted (is_some (here t)) (not (is_some (here t)))) (suc (more t)) (more t)

-- Where others have all words of some pairs, or none of them.
pub found-such : (wanted such : Bool) (words low top by : ℕ) (pairs others : Pairs) → IsMap words low top pairs
    → ((key : ℕ) → key < top → is_sought wanted others (by + key) ≡ such) → found wanted by pairs others ≡ cond such (length pairs) 0
unfolding found
found-such wanted such words low top by [] others map all = elim such as (λ (b : Bool). ◌≡◌ {A = ℕ} 0 (cond b 0 0)) [ true ↦ refl | false ↦ refl ]
found-such wanted such words low top by (pair ∷ pairs) others map all =
    ap (λ b. cond b (suc (found wanted by pairs others)) (found wanted by pairs others)) (all pair.0 map.1)
    ∙ ap (λ n. cond such (suc n) n) (found-such wanted such words (pair.0 + 1) top by pairs others map.3 all)
    ∙ elim such as (λ b. cond b (suc (cond b (length pairs) 0)) (cond b (length pairs) 0) ≡ cond b (suc (length pairs)) 0) [ true ↦ refl | false ↦ refl ]

-- ---- bitmap leaves

pub some-has : (pairs : Pairs) (key : ℕ) → is_some (value_of pairs key) ≡ has (keys_of pairs) key
some-has [] key = refl
some-has (pair ∷ pairs) key = ⊎_elim
    (λ (same : key ≡ pair.0). ap is_some (find-same key pair pairs same) ∙ ap (λ b. b || has (keys_of pairs) key) (sym (eq-eqb pair.0 key (sym same))))
    (λ (apart : key ≢ pair.0).
    ap is_some (find-apart key pair pairs apart) ∙ some-has pairs key ∙ ap (λ b. b || has (keys_of pairs) key) (sym (ne_eqb pair.0 key (λ e. apart (sym e)))))
    (same_or key pair.0)

-- The keys that both have.
pub found-common : (by : ℕ) (pairs others : Pairs) → by ≡ 0 → found true by pairs others ≡ length (filter (has (keys_of others)) (keys_of pairs))
unfolding found
found-common by [] others none = refl
found-common by (pair ∷ pairs) others none =
    let here : by + pair.0 ≡ pair.0 = omega arith in
    let rest = found-common by pairs others none in
    let all = length (filter (has (keys_of others)) (keys_of pairs)) in
    (λ t. cond (is_some (value_of others (here t))) (suc (rest t)) (rest t))
    ∙ (λ t. cond (some-has others pair.0 t) (suc all) all)
    ∙ elim (has (keys_of others) pair.0) as (λ b. cond b (suc (length (filter (has (keys_of others)) (keys_of pairs)))) (length (filter (has (keys_of others)) (keys_of pairs))) ≡
    length (cond b (pair.0 ∷ filter (has (keys_of others)) (keys_of pairs)) (filter (has (keys_of others)) (keys_of pairs)))) [ true ↦ refl | false ↦ refl ]

-- Those that the other lacks are the rest.
pub found-lacking : (by : ℕ) (pairs others : Pairs) → found false by pairs others + found true by pairs others ≡ length pairs
unfolding found
found-lacking by [] others = refl
found-lacking by (pair ∷ pairs) others =
    let rest = found-lacking by pairs others in
    elim (is_some (value_of others (by + pair.0))) as (λ b. cond (not b) (suc (found false by pairs others)) (found false by pairs others) + cond b
    (suc (found true by pairs others)) (found true by pairs others) ≡ suc (length pairs)) [ true ↦ omega arith | false ↦ omega arith ]

-- Two whose words begin together.
pub found-level : (wanted : Bool) (words by front other_front : ℕ) (pairs others : Pairs) → IsMap words 0 256 pairs → by + front ≡ other_front
    → found wanted by (shift front pairs) (shift other_front others) ≡ found wanted 0 pairs others
found-level wanted words by front other_front pairs others map sum =
    found-shift wanted by front other_front pairs (shift other_front others) (sym sum)
    ∙ found-alike wanted words 0 256 other_front 0 pairs (shift other_front others) others map (λ key inside.
    part-value words (other_front + 256) (shift other_front others) other_front 256 key (other_front + key) others [] [] (record {
      fits = omega arith;
      same = sym (append-nil (shift other_front others));
      before = tt;
      after = tt;
    }) refl inside
    ∙ ap (value_of others) (let e : key ≡ 0 + key = omega arith in e))

-- ---- whole trees

-- What is wanted of a map's keys is what is found among its pairs.
pub found-where : (wanted : Bool) (words top by : ℕ) (pairs others : Pairs) → by ≡ 0 → IsMap words 0 top others
    → found wanted by pairs others ≡ length (where_key word_order (is_wanted wanted (map_of others)) pairs)
unfolding found
found-where wanted words top by [] others none map = refl
found-where wanted words top by (pair ∷ pairs) others none map =
    let here : by + pair.0 ≡ pair.0 = omega arith in
    let rest = found-where wanted words top by pairs others none map in
    let test : is_sought wanted others pair.0 ≡ is_wanted wanted (map_of others) pair.0 = ap (λ o. cond wanted (is_some o) (not (is_some o))) (sym (get_is words top others map pair.0)) in
    let all = length (where_key word_order (is_wanted wanted (map_of others)) pairs) in
    (λ t. cond (is_sought wanted others (here t)) (suc (rest t)) (rest t))
    ∙ (λ t. cond (test t) (suc all) all)
    ∙ elim (is_wanted wanted (map_of others) pair.0) as
    (λ b. cond b (suc (length (where_key word_order (is_wanted wanted (map_of others)) pairs))) (length (where_key word_order (is_wanted wanted (map_of others)) pairs)) ≡
    length (cond b (pair ∷ where_key word_order (is_wanted wanted (map_of others)) pairs) (where_key word_order (is_wanted wanted (map_of others)) pairs))) [ true ↦ refl | false ↦ refl ]
