-- The pairs of a map of strings from a place on, where those of a string begin, and how the first of them is written.
use Rattle.std.proofs.Common.{◌≡◌, ◌<◌, ◌≤◌, ◌+◌, ◌-◌, ℕ, zero, suc, Bool, true, false, nat_le, List, [], ◌∷◌, ◌++◌, length, take, drop, slice_get, slice_set, Option, Some, None, option_map}
use Rattle.std.proofs.Common.{refl, sym, ap, subst, ◌∙◌, append-nil, is_le, if◌then◌else◌, MatchOption, IfSome, unwrap_or, length-append, arith}
use Rattle.std.proofs.Math.ListN.{drop_of_length-le}
use Rattle.std.proofs.Math.Numerals.{add-one}
use Rattle.std.proofs.Math.Seq.{drop-append_seam}
use Rattle.std.proofs.lemmas.Bool.{le-leb}
use Rattle.std.proofs.lemmas.List.{drop-take, length-drop, length-take-le}
use Rattle.std.proofs.lemmas.Option.{slice_get-map, same_Some}
use Rattle.std.proofs.lemmas.Slice.{take-put_mid, drop-put_mid}
use borrow.Rule.Slice.PartMut.{put_mid, same_len_mid}
use Rattle.std.specs.Cmp.{tied_itself}
use Rattle.std.specs.Cmp.Lexicographic.{nat_list_cmp_total}
use Rattle.std.specs.FinMap.{FinMap, entries, get, len}
use Rattle.judy_model.specs.Counts.{by_count, count, count_up_to, rank}
use Rattle.judy_model.specs.Keys.{byte_order}
use Rattle.judy_model.specs.Neighbours.{next}
use Rattle.judy_model.proofs.lemmas.queries.CountsLemmas.{empty_string_is_least}
use Rattle.judy_model.proofs.lemmas.queries.RankLemmas.{by_count-suc, count_from_least, count_ranks, count_up_to-le, count_up_to_at}
use Rattle.judy_shelf.proofs.WalkLemmas.{entry_there}
use Rattle.judy_sl.specs.Scans.{value_found}
use Rattle.judy_c.specs.KeyWalks.{Pairs, Page, page_of, place_from, pairs_from, fitting, IsPut, IsPutAt, EndsBytes, end_of}
use Rattle.judy_c.specs.declared.key_walks.KeyEntry.{KeyEntry}
use Rattle.judy_c.proofs.PageLemmas.{IsSoFar, so_far_more, fitting_none, fitting_long}
use Rattle.judy_c.proofs.PairLemmas.{drop_some, drop_none, pairs_some, pairs_none, ends}

module _ (m : FinMap byte_order ℕ) where
  -- ---- where the pairs of a string begin

  module _ (from : List ℕ) where
    up_to : count m [] from ≡ count_up_to m from
    up_to = count_from_least nat_list_cmp_total m [] empty_string_is_least from

    with_rank : count m from from + rank m from ≡ count_up_to m from
    with_rank = count_ranks nat_list_cmp_total m from from (ap is_le (tied_itself nat_list_cmp_total from))

    pub few : count m [] from ≤ len m
    few = let most = count_up_to-le nat_list_cmp_total m from in let same = up_to in omega (arith, most, same)

    pub here_within : count m from from ≤ count m [] from
    here_within = let both = with_rank in let same = up_to in omega (arith, both, same)

    pub above : (itself : Bool) → itself ≡ false → count m [] from ≡ place_from m from itself
    above itself is = up_to ∙ ap (place_from m from) (sym is)

    pub here : (itself : Bool) → itself ≡ true → count m [] from - count m from from ≡ place_from m from itself
    here itself is =
        let both = with_rank in
        let same = up_to in
        let e : count m [] from - count m from from ≡ rank m from = omega (arith, both, same) in
        e ∙ ap (place_from m from) (sym is)

  -- ---- the first pair from a place on

  module _ (place : ℕ) where
    asked : by_count m (place + 1) ≡ option_map (λ e. e.0) (slice_get (entries m) place)
    asked = ap (by_count m) (add-one place) ∙ by_count-suc nat_list_cmp_total m place ∙ slice_get-map (λ e. e.0) (entries m) place

    none_at : (found : Option (List ℕ × ℕ)) → slice_get (entries m) place ≡ found → None ≡ option_map length (option_map (λ e. e.0) found) → drop place (entries m) ≡ []
    none_at None at is = drop_none (entries m) place at
    none_at (Some pair) at is = absurd cc

    -- Where there is no key, there is none.
    pub none_left : None ≡ option_map length (by_count m (place + 1)) → drop place (entries m) ≡ []
    none_left is = none_at (slice_get (entries m) place) refl (is ∙ ap (option_map length) asked)

    -- Where there is one, it is that key with its value, and the others stand behind it.
    pub record IsFirst (long : ℕ) : Type 0 where
      pub pair : List ℕ × ℕ
      pub first : drop place (entries m) ≡ pair ∷ drop 1 (drop place (entries m))
      pub key : by_count m (place + 1) ≡ Some pair.0
      pub value : get m pair.0 ≡ Some pair.1
      pub measured : long ≡ length pair.0

    first_at : (long : ℕ) (found : Option (List ℕ × ℕ)) → slice_get (entries m) place ≡ found → Some long ≡ option_map length (option_map (λ e. e.0) found) → IsFirst long
    first_at long None at is = absurd cc
    first_at long (Some pair) at is =
        let there = entry_there nat_list_cmp_total m place pair.0 (slice_get-map (λ e. e.0) (entries m) place ∙ ap (option_map (λ e. e.0)) at) in
        let goes = drop_some (entries m) place (pair.0, there.0) there.2 in record {
          pair = (pair.0, there.0);
          first = goes ∙ ap (λ (pairs : List (List ℕ × ℕ)). (pair.0, there.0) ∷ drop 1 pairs) (sym goes);
          key = asked ∙ ap (option_map (λ e. e.0)) at;
          value = there.1;
          measured = cc;
        }

    pub some_left : (long : ℕ) → Some long ≡ option_map length (by_count m (place + 1)) → IsFirst long
    some_left long is = first_at long (slice_get (entries m) place) refl (is ∙ ap (option_map length) asked)

-- ---- a pair that is written

module _ (pair : List ℕ × ℕ) (used k : ℕ) (before now : List ℕ) (inside : used + k ≤ length before) (long : k ≡ length pair.0) (is : now ≡ pair.0) where
  all : length now ≡ k
  all = ap length is ∙ sym long

  pub put_at : (told value : ℕ) → told ≡ length pair.0 → value ≡ pair.1 → IsPutAt pair used before (record { length = told; value = value }) (put_mid used k before now)
  put_at told value counts holds = record {
    told = (λ t. record { length = counts t; value = holds t });
    fits = le-leb (length pair.0) (length before - used) (omega arith);
    written = take-put_mid used k before now (used + length pair.0) (let same = ap length is in omega (arith, same)) (omega arith) ∙ ap (λ (ys : List ℕ). take used before ++ ys) is;
    behind = drop-put_mid used k before now (used + length pair.0) (omega arith) (omega arith) all;
    same_length = same_len_mid used k before now (let long = length-drop used before in all ∙ sym (length-take-le k (drop used before) (omega (arith, long))));
  }

-- What a key leaves of a buffer that is as long as it is the key alone.
pub key_alone : (key before : List ℕ) → length before ≡ length key → key ++ drop (length key) before ≡ key
key_alone key before same = ap (λ (ys : List ℕ). key ++ ys) (drop_of_length-le before (omega (arith, same))) ∙ append-nil key

-- Where the first pair doesn't fit, no more do.
pub none_fits : (room count : ℕ) (rest : Pairs) → fitting room 1 rest ≡ [] → fitting room count rest ≡ []
none_fits room count [] none = fitting_none room count
none_fits room count (pair ∷ rest) none = by (nat_le (length pair.0) room) refl
  where
    by : (fits : Bool) → nat_le (length pair.0) room ≡ fits → fitting room count (pair ∷ rest) ≡ []
    by true is = absurd (let full : pair ∷ fitting (room - length pair.0) 0 rest ≡ [] = ap (λ b. if b then pair ∷ fitting (room - length pair.0) 0 rest else []) (sym is) ∙ none in cc)
    by false is = fitting_long room count pair rest is

-- What is said of a key that is found.
pub of_found : (A : Type 0) (B : List ℕ → Type 0) (found : Option (List ℕ)) (key : List ℕ) → found ≡ Some key → MatchOption found A B → B key
of_found A B found key is said = subst (λ (it : Option (List ℕ)). MatchOption it A B) is said

-- With the pair that is written one more is.
pub so_far_put : (all : Pairs) (before : Page) (used count : ℕ) (rest : Pairs) (now : Page) (entry : KeyEntry) (after : List ℕ) → IsSoFar all before used count rest now →
    count < length now.entries → (pair : List ℕ × ℕ) → rest ≡ pair ∷ drop 1 rest → IsPutAt pair used now.bytes entry after →
    IsSoFar all before (used + entry.length) (count + 1) (drop 1 rest) (page_of after (slice_set now.entries count entry))
so_far_put all before used count rest now entry after so room pair first put =
    subst (λ (told : KeyEntry). IsSoFar all before (used + told.length) (count + 1) (drop 1 rest) (page_of after (slice_set now.entries count told))) (sym put.told)
    (so_far_more all before used count pair (drop 1 rest) now (subst (λ (pairs : Pairs). IsSoFar all before used count pairs now) first so)
    put.fits room after put.written put.behind put.same_length)

-- ---- from a key to the next one

-- Where a list goes on with an element, it has that there.
slice_at : {A : Type 0} (xs : List A) (place : ℕ) (x : A) (rest : List A) → drop place xs ≡ x ∷ rest → slice_get xs place ≡ Some x
slice_at [] zero x rest is = absurd cc
slice_at [] (suc place) x rest is = absurd cc
slice_at (y ∷ xs) zero x rest is = cc
slice_at (y ∷ xs) (suc place) x rest is = slice_at xs place x rest is

-- The end of bytes behind which some were written is these.
end_is : (front key : List ℕ) → end_of (length key) (front ++ key) ≡ key
end_is front key =
    let long = length-append front key in
    let e : length (front ++ key) - length key ≡ length front = omega (arith, long) in
    ap (λ n. drop n (front ++ key)) e ∙ drop-append_seam front key

-- The last bytes of those that are used, as a part of the buffer.
pub key_before : (used before : ℕ) (bytes : List ℕ) → before ≤ length (take used bytes) → used ≤ length bytes →
    take (used - (used - before)) (drop (used - before) bytes) ≡ end_of before (take used bytes)
key_before used before bytes inside within =
    let long = length-take-le used bytes within in
    let start : length (take used bytes) - before ≡ used - before = omega (arith, long) in
    let few : used - (used - before) ≡ before = omega (arith, long, inside) in
    let all : used - before + before ≡ used = omega (arith, long, inside) in
    ap (λ n. take n (drop (used - before) bytes)) few
    ∙ sym (drop-take (used - before) before bytes)
    ∙ ap (λ n. drop (used - before) (take n bytes)) all
    ∙ ap (λ n. drop n (take used bytes)) (sym start)

module _ (m : FinMap byte_order ℕ) (place : ℕ) where
  -- The pair at a place is one of the map, and those above its key stand behind it.
  ends_with : (pair : List ℕ × ℕ) → drop place (entries m) ≡ pair ∷ drop 1 (drop place (entries m)) → (front : List ℕ) → EndsBytes m (place + 1) (front ++ pair.0) (length pair.0)
  ends_with pair first front =
      let at = slice_at (entries m) place pair _ first in
      let named = slice_get-map (λ e. e.0) (entries m) place ∙ ap (option_map (λ e. e.0)) at in
      let there = entry_there nat_list_cmp_total m place pair.0 named in record {
        inside = let long = length-append front pair.0 in omega (arith, long);
        value = there.0;
        held = ap (get m) (end_is front pair.0) ∙ there.1;
        behind = ap (λ n. drop n (entries m)) (ap (count_up_to m) (end_is front pair.0) ∙ count_up_to_at nat_list_cmp_total m place pair.0 named ∙ sym (add-one place));
      }

  -- So does what was written end with the key that was put at the place.
  pub ends_put : (used : ℕ) (before after : List ℕ) (entry : KeyEntry) (pair : List ℕ × ℕ) → drop place (entries m) ≡ pair ∷ drop 1 (drop place (entries m)) →
      IsPutAt pair used before entry after → EndsBytes m (place + 1) (take (used + entry.length) after) entry.length
  ends_put used before after entry pair first put =
      subst (λ (told : KeyEntry). EndsBytes m (place + 1) (take (used + told.length) after) told.length) (sym put.told)
      (subst (λ (bytes : List ℕ). EndsBytes m (place + 1) bytes (length pair.0)) (sym put.written) (ends_with pair first (take used before)))

  module _ (from : List ℕ) (goes : pairs_from m from false ≡ drop place (entries m)) where
    -- What is told of how long the next key is, is told of the key at the place.
    pub next_measured : (long : ℕ) (found : Option (List ℕ)) → next m from ≡ found → Some long ≡ option_map length found → Some long ≡ option_map length (by_count m (place + 1))
    next_measured long None is told = absurd cc
    next_measured long (Some key) is told =
        let there = pairs_some m from key false is in
        let at = slice_at (entries m) place (key, there.0) _ (sym goes ∙ there.2) in
        told ∙ sym (ap (option_map length) (asked m place ∙ ap (option_map (λ e. e.0)) at))

    -- Where there is none, none stands there.
    pub none_next : (room : ℕ) (found : Option (List ℕ)) → next m from ≡ found → None ≡ option_map length found → fitting room 1 (drop place (entries m)) ≡ []
    none_next room None is told = ap (fitting room 1) (sym goes ∙ pairs_none m from false is) ∙ fitting_none room 1
    none_next room (Some key) is told = absurd cc

    pub none_valued : (room : ℕ) → None ≡ value_found m (next m from) → fitting room 1 (drop place (entries m)) ≡ []
    none_valued room told = ap (fitting room 1) (sym goes ∙ ends m from false (next m from) refl told) ∙ fitting_none room 1

    -- The next key, of which is told how long it is, and which a room holds.
    module _ (long : ℕ) (room : List ℕ) (found : Option (List ℕ)) (is : next m from ≡ found) (told : Some long ≡ option_map length found)
        (holds : IfSome found (λ key. take (length key) room ≡ key)) where
      key_held : (key : List ℕ) → found ≡ Some key → take long room ≡ key
      key_held key at =
          let same : long ≡ length key = ap (λ o. unwrap_or o long) (told ∙ ap (option_map length) at) in
          ap (λ n. take n room) same ∙ subst (λ (o : Option (List ℕ)). IfSome o (λ key. take (length key) room ≡ key)) at holds

      -- It doesn't fit,
      pub not_put : (space : ℕ) → nat_le (length (take long room)) space ≡ false → fitting space 1 (drop place (entries m)) ≡ []
      not_put space less = by found refl
        where
          by : (one : Option (List ℕ)) → found ≡ one → fitting space 1 (drop place (entries m)) ≡ []
          by None at = absurd (let gone : Some long ≡ None = told ∙ ap (option_map length) at in cc)
          by (Some key) at =
              let there = pairs_some m from key false (is ∙ at) in
              ap (fitting space 1) (sym goes ∙ there.2) ∙ fitting_long space 1 (key, there.0) (pairs_from m key false) (ap (λ (it : List ℕ). nat_le (length it) space) (sym (key_held key at)) ∙ less)

      -- or is written.
      module _ (used value : ℕ) (before after : List ℕ) (valued : Some value ≡ value_found m found) (fits : nat_le (length (take long room)) (length before - used) ≡ true)
          (copied : take (used + length (take long room)) after ≡ take used before ++ take long room)
          (behind : drop (used + length (take long room)) after ≡ drop (used + length (take long room)) before)
          (same_length : length after ≡ length before) where
        pub put_next : IsPut (drop place (entries m)) used before (Some (record { length = long; value = value })) after
        put_next = by found refl
          where
            by : (one : Option (List ℕ)) → found ≡ one → IsPut (drop place (entries m)) used before (Some (record { length = long; value = value })) after
            by None at = absurd (let gone : Some long ≡ None = told ∙ ap (option_map length) at in cc)
            by (Some key) at =
                let there = pairs_some m from key false (is ∙ at) in
                let held = key_held key at in
                let first : drop place (entries m) ≡ (key, there.0) ∷ pairs_from m key false = sym goes ∙ there.2 in
                let counts : long ≡ length key = ap (λ o. unwrap_or o long) (told ∙ ap (option_map length) at) in
                let is_value : value ≡ there.0 = same_Some value there.0 (valued ∙ ap (value_found m) at ∙ there.1) in (
                  (key, there.0),
                  first ∙ ap (λ (pairs : Pairs). (key, there.0) ∷ drop 1 pairs) (sym first),
                  record {
                    told = (λ t. record { length = counts t; value = is_value t });
                    fits = ap (λ (it : List ℕ). nat_le (length it) (length before - used)) (sym held) ∙ fits;
                    written = subst (λ (it : List ℕ). take (used + length it) after ≡ take used before ++ it) held copied;
                    behind = subst (λ (it : List ℕ). drop (used + length it) after ≡ drop (used + length it) before) held behind;
                    same_length = same_length;
                  },
                )
