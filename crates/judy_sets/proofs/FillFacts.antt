-- What an array has at a key as pairs are put in.
use Rattle.std.proofs.Common.{◌≡◌, ◌≢◌, ℕ, ◌+◌, ◌-◌, ◌<◌, ◌≤◌, ◌⊎◌, inl, inr, ⊎_elim, Bool, true, false, cond, [], ◌∷◌, ◌++◌, length, take, drop, get_or, Option, Some, None}
use Rattle.std.proofs.Common.{is_some, All, drop_of_length-le, refl, sym, ap, ◌∙◌, subst, arith, eq-eqb, ne_eqb}
use Rattle.std.specs.Option.{option_or, option_map}
use Rattle.std.specs.Ordering.{eq_by_cmp}
use Rattle.std.specs.Cmp.{nat_cmp_total}
use Rattle.std.specs.FinMap.{FinMap, entries, values, find, get, get-entries, get-empty, get-insert, empty, insert}
use Rattle.std.proofs.lemmas.List.{take_more}
use Rattle.judy_model.specs.Keys.{word_order}
use Rattle.judy_model.specs.Arrays.{ArrayOf, with_map}
use Rattle.judy_model.proofs.lemmas.maps.ValuesLemmas.{value_from_All}
use Rattle.judy_word.specs.Held.{with_new}
use Rattle.judy_combine.specs.declared.keep.Keep.{Keep}
use Rattle.judy_combine.specs.Merges.{Pairs, taken, pick}
use Rattle.judy_sets.specs.Pages.{Ahead, rest}
use Rattle.judy_sets.specs.Fills.{worth, IsAdded, IsPut, IsRestPut, IsFilled}
use Rattle.judy_sets.specs.Results.{kept, kept_count}
use Rattle.judy_combine.proofs.Finds.{same_or, find-same, find-apart, find-join}
use Rattle.judy_sets.proofs.MapLaws.{same_words, get-kept}

or_none : (o : Option ℕ) → option_or o None ≡ o
or_none None = refl
or_none (Some v) = refl

pub or_assoc : (a b c : Option ℕ) → option_or (option_or a b) c ≡ option_or a (option_or b c)
or_assoc None b c = refl
or_assoc (Some v) b c = refl

-- One more pair.
by_presence : (held : Option ℕ) (key value : ℕ) (map : FinMap word_order ℕ) (at : ℕ) → get map key ≡ held →
    get (cond (is_some held) map (insert map key value)) at ≡ option_or (get map at) (find word_order at ((key, value) ∷ []))
by_presence None key value map at is = ⊎_elim
    (λ (same : at ≡ key).
    get-insert nat_cmp_total map key value at ∙ takes (eq_by_cmp word_order at key) (get map at) value (find-same at (key, value) [] same)
    ∙ sym ((λ t. option_or ((ap (get map) same ∙ is) t) (find-same at (key, value) [] same t))))
    (λ (apart : at ≢ key).
    get-insert nat_cmp_total map key value at
    ∙ drops (eq_by_cmp word_order at key) (get map at) value (find-apart at (key, value) [] apart)
    ∙ sym (ap (option_or (get map at)) (find-apart at (key, value) [] apart) ∙ or_none (get map at)))
    (same_or at key)
  where
    takes : (b : Bool) (o : Option ℕ) (v : ℕ) → cond b (Some v) None ≡ Some v → cond b (Some v) o ≡ Some v
    takes true o v e = refl
    takes false o v e = absurd cc

    drops : (b : Bool) (o : Option ℕ) (v : ℕ) → cond b (Some v) None ≡ None → cond b (Some v) o ≡ o
    drops true o v e = absurd cc
    drops false o v e = refl
by_presence (Some held) key value map at is = ⊎_elim
    (λ (same : at ≡ key). let here : get map at ≡ Some held = ap (get map) same ∙ is in here ∙ sym (ap (λ (o : Option ℕ). option_or o (find word_order at ((key, value) ∷ []))) here))
    (λ (apart : at ≢ key). sym (ap (option_or (get map at)) (find-apart at (key, value) [] apart) ∙ or_none (get map at)))
    (same_or at key)

pub get-with_new : (map : FinMap word_order ℕ) (key value at : ℕ) → get (with_new map key value) at ≡ option_or (get map at) (find word_order at ((key, value) ∷ []))
get-with_new map key value at = by_presence (get map key) key value map at refl

-- ---- values

pub map-or : (f : ℕ → ℕ) (a b : Option ℕ) → option_map f (option_or a b) ≡ option_or (option_map f a) (option_map f b)
map-or f None b = refl
map-or f (Some v) b = refl

find-one : (f : ℕ → ℕ) (at : ℕ) (pair : ℕ × ℕ) → find word_order at ((pair.0, f pair.1) ∷ []) ≡ option_map f (find word_order at (pair ∷ []))
find-one f at pair = elim (eq_by_cmp word_order at pair.0) as (λ b. cond b (Some (f pair.1)) None ≡ option_map f (cond b (Some pair.1) None)) [ true ↦ refl | false ↦ refl ]

-- ---- pairs put in

module _ (words : ℕ) where
  pub none_put : (before : ArrayOf word_order) → IsPut words before before []
  none_put before = record { limit = refl; map = λ key. sym (or_none (get before.map key)) }

  pub one_put : (before old new : ArrayOf word_order) (pairs : Pairs) (at : ℕ) → at < length pairs → IsPut words before old (take at pairs)
      → new ≡ with_map old (with_new old.map (get_or pairs at (0, 0)).0 (worth words (get_or pairs at (0, 0)).1))
      → IsPut words before new (take (at + 1) pairs)
  one_put before old new pairs at within put is =
      let pair = get_or pairs at (0, 0) in record {
        limit = ap (λ (a : ArrayOf word_order). a.limit) is ∙ put.limit;
        map = λ key.
            ap (λ (a : ArrayOf word_order). get a.map key) is
            ∙ get-with_new old.map pair.0 (worth words pair.1) key
            ∙ (λ t. option_or (put.map key t) (find-one (worth words) key pair t))
            ∙ or_assoc (get before.map key) (option_map (worth words) (find word_order key (take at pairs))) (option_map (worth words) (find word_order key (pair ∷ [])))
            ∙ ap (option_or (get before.map key))
            (sym (map-or (worth words) (find word_order key (take at pairs)) (find word_order key (pair ∷ [])))
            ∙ ap (option_map (worth words)) (sym (ap (find word_order key) (take_more pairs at (0, 0) within) ∙ find-join key (take at pairs) (pair ∷ []))));
      }

  -- One list, and then another.
  pub then_added : (before old new : ArrayOf word_order) (first more : ℕ → Option ℕ) → IsAdded before old first → IsAdded old new more → IsAdded before new (λ key. option_or (first key) (more key))
  then_added before old new first more one other = record {
    limit = other.limit ∙ one.limit;
    map = λ key. other.map key ∙ ap (λ (o : Option ℕ). option_or o (more key)) (one.map key) ∙ or_assoc (get before.map key) (first key) (more key);
  }

  pub added_alike : (before after : ArrayOf word_order) (one other : ℕ → Option ℕ) → ((key : ℕ) → one key ≡ other key) → IsAdded before after one → IsAdded before after other
  added_alike before after one other same is = record { limit = is.limit; map = λ key. is.map key ∙ ap (option_or (get before.map key)) (same key) }

  pub put_more : (before old new : ArrayOf word_order) (one other : Pairs) → IsPut words before old one → IsPut words old new other → IsPut words before new (one ++ other)
  put_more before old new one other first more =
      added_alike before new _ _ (λ key. sym (map-or (worth words) (find word_order key one) (find word_order key other)) ∙ ap (option_map (worth words)) (sym (find-join key one other)))
      (then_added before old new _ _ first more)

  pub none_left : (before : ArrayOf word_order) (pairs : Pairs) → pairs ≡ [] → IsPut words before before pairs
  none_left before pairs none = subst (IsPut words before before) (sym none) (none_put before)

  -- A page, and those behind it.
  pub rest_put : (before old new : ArrayOf word_order) (ahead after : Ahead) (page : Pairs) (count : ℕ) → page ≡ ahead.0 → count ≡ length page → rest after ≡ drop count ahead.0 ++ ahead.1
      → IsPut words before old page → IsPut words old new (rest after) → IsPut words before new (rest ahead)
  rest_put before old new ahead after page count is all left first more =
      let nothing : drop count ahead.0 ≡ [] = drop_of_length-le ahead.0 (let long = ap length is in omega (arith, all, long)) in
      let behind : rest after ≡ ahead.1 = left ∙ ap (λ (ps : Pairs). ps ++ ahead.1) nothing in
      put_more before old new ahead.0 ahead.1 (subst (IsPut words before old) is first) (subst (IsPut words old new) behind more)

  pub rest_all : (wanted : Bool) (before after : ArrayOf word_order) (pairs : Pairs) → wanted ≡ true → IsPut words before after pairs → IsRestPut words wanted before after pairs
  rest_all true before after pairs on is = is
  rest_all false before after pairs on is = absurd cc

  -- ---- the end of two lists

  at_end : (keep : Keep) (ours theirs : Option ℕ) → (ours ≡ None) ⊎ (theirs ≡ None) → option_or (cond keep.left (option_map (worth words) ours) None)
      (cond keep.right (option_map (worth words) theirs) None) ≡ option_map (worth words) (pick keep ours theirs)
  at_end keep None None ended = ends keep.left keep.right
    where
      ends : (left right : Bool) → option_or {T = ℕ} (cond left None None) (cond right None None) ≡ None
      ends true true = refl
      ends true false = refl
      ends false true = refl
      ends false false = refl
  at_end keep None (Some w) ended = ends keep.left keep.right
    where
      ends : (left right : Bool) → option_or (cond left None None) (cond right (Some (worth words w)) None) ≡ option_map (worth words) (cond right (Some w) None)
      ends true true = refl
      ends true false = refl
      ends false true = refl
      ends false false = refl
  at_end keep (Some v) None ended = ends keep.left keep.right
    where
      ends : (left right : Bool) → option_or (cond left (Some (worth words v)) None) (cond right None None) ≡ option_map (worth words) (cond left (Some v) None)
      ends true true = refl
      ends true false = refl
      ends false true = refl
      ends false false = refl
  at_end keep (Some v) (Some w) ended = ⊎_elim (λ e. absurd cc) (λ e. absurd cc) ended

  pub ends_filled : (keep : Keep) (before old new : ArrayOf word_order) (one other : Pairs) → (one ≡ []) ⊎ (other ≡ []) → IsRestPut words keep.left before old one →
      IsRestPut words keep.right old new other → IsFilled words keep before new one other
  ends_filled keep before old new one other ended first more =
      added_alike before new _ _ (λ key. at_end keep (find word_order key one) (find word_order key other)
      (⊎_elim (λ (e : one ≡ []). inl (ap (find word_order key) e)) (λ (e : other ≡ []). inr (ap (find word_order key) e)) ended))
      (then_added before old new _ _ first more)

  -- A part of two lists, and then the others.
  pub part_filled : (keep : Keep) (before old new : ArrayOf word_order) (out one other one_rest other_rest : Pairs)
      → ((key : ℕ) → option_or (find word_order key out) (pick keep (find word_order key one_rest) (find word_order key other_rest)) ≡ pick keep (find word_order key one) (find word_order key other))
      → IsPut words before old out → IsFilled words keep old new one_rest other_rest → IsFilled words keep before new one other
  part_filled keep before old new out one other one_rest other_rest same first more =
      added_alike before new _ _ (λ key. sym (map-or (worth words) (find word_order key out) (pick keep (find word_order key one_rest) (find word_order key other_rest))) ∙
      ap (option_map (worth words)) (same key))
      (then_added before old new _ _ first more)

-- ---- a new array

pub same_worth : (words : ℕ) (o : Option ℕ) → (words ≡ 0 → (v : ℕ) → o ≡ Some v → v ≡ 0) → option_map (worth words) o ≡ o
same_worth words None zeros = refl
same_worth words (Some v) zeros = ⊎_elim
    (λ (none : words ≡ 0). ap (λ b. Some (cond b 0 v)) (eq-eqb words 0 none) ∙ ap Some (sym (zeros none v refl)))
    (λ (some : words ≢ 0). ap (λ b. Some (cond b 0 v)) (ne_eqb words 0 some))
    (same_or words 0)

from_either : (left both right : Bool) (ours theirs : Option ℕ) (v : ℕ) → taken left both right ours theirs ≡ Some v → (ours ≡ Some v) ⊎ (theirs ≡ Some v)
from_either left both right None None v is = absurd cc
from_either left both true None (Some w) v is = inr is
from_either left both false None (Some w) v is = absurd cc
from_either true both right (Some o) None v is = inl is
from_either false both right (Some o) None v is = absurd cc
from_either left true right (Some o) (Some w) v is = inl is
from_either left false right (Some o) (Some w) v is = absurd cc

pub filled_is : (words : ℕ) (keep : Keep) (before after : ArrayOf word_order) (one other : FinMap word_order ℕ) (ours theirs : Pairs) → before.map ≡ empty → ours ≡ entries one → theirs ≡ entries other
    → (words ≡ 0 → All (λ value. value ≡ 0) (values one)) → (words ≡ 0 → All (λ value. value ≡ 0) (values other))
    → IsFilled words keep before after ours theirs → after.map ≡ kept keep one other
filled_is words keep before after one other ours theirs new left right one_zeros other_zeros is = same_words after.map (kept keep one other) (λ key.
    is.map key
    ∙ ap (λ (m : FinMap word_order ℕ). option_or (get m key) (option_map (worth words) (pick keep (find word_order key ours) (find word_order key theirs)))) new
    ∙ ap (λ (o : Option ℕ). option_or o (option_map (worth words) (pick keep (find word_order key ours) (find word_order key theirs)))) (get-empty word_order key)
    ∙ (λ t. option_map (worth words) (pick keep ((ap (find word_order key) left ∙ sym (get-entries one key)) t) ((ap (find word_order key) right ∙ sym (get-entries other key)) t)))
    ∙ same_worth words (pick keep (get one key) (get other key)) (λ none v at. ⊎_elim
    (λ (h : get one key ≡ Some v). value_from_All (λ value. value ≡ 0) one key v (one_zeros none) h)
    (λ (h : get other key ≡ Some v). value_from_All (λ value. value ≡ 0) other key v (other_zeros none) h)
    (from_either keep.left keep.both keep.right (get one key) (get other key) v at))
    ∙ sym (get-kept keep one other key))

-- ---- how many keys are kept at most

pub kept_most : (keep : Keep) (one other common : ℕ) → common ≤ one → kept_count keep one other common ≤ one + cond keep.right other 0
kept_most keep one other common most = by keep.left keep.both keep.right
  where
    by : (left both right : Bool) → cond both common 0 + cond left (one - common) 0 + cond right (other - common) 0 ≤ one + cond right other 0
    by true true true = omega (arith, most)
    by true true false = omega (arith, most)
    by true false true = omega (arith, most)
    by true false false = omega (arith, most)
    by false true true = omega (arith, most)
    by false true false = omega (arith, most)
    by false false true = omega (arith, most)
    by false false false = omega (arith, most)
