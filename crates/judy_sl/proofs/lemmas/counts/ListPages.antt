-- The list of a level, made of its entries from the last one on.
use Rattle.std.proofs.Common.{◌≡◌, ◌≢◌, ℕ, suc, ◌+◌, ◌-◌, ◌<◌, ◌≤◌, ◌^◌, Bool, true, false, cond, nat_lt, List, [], ◌∷◌, length, take, drop, get_or, Option, None, Some, is_some, unwrap_or, refl, sym}
use Rattle.std.proofs.Common.{ap, subst, ◌∙◌, arith, ⊎_elim}
use Rattle.std.specs.Ordering.{is_eq, eq_by_cmp}
use Rattle.std.specs.List.{flat_map}
use Rattle.std.specs.Cmp.{nat_cmp_total, tied_itself}
use Rattle.std.specs.FinMap.{FinMap, nat_cmp-IsAntisymmetric, empty, entries, entries_sorted, entries-insert, find, get, get-entries, get-empty, insert, len, len-entries, len-insert, len-empty}
use Rattle.std.proofs.lemmas.Bool.{cases_eq, cases_lt, lt-ltb, le-ltb, false_from_ne_true}
use Rattle.std.proofs.Math.Seq.{drop-cons}
use Rattle.std.proofs.lemmas.List.{get_or-drop, get_or-take, length-append, length-drop, take-append-drop}
use Rattle.std.proofs.lemmas.List.Concat.{flat_map-cons}
use Rattle.std.proofs.lemmas.Option.{none-some, same_Some}
use Rattle.judy_model.specs.Keys.{word_order}
use Rattle.judy_model.proofs.lemmas.orders.Orders.{same_from_tie}
use Rattle.judy_sums.specs.Pairs.{Pairs, sum_of, number_at, number_in}
use Rattle.judy_sums.specs.Chunks.{Ascends}
use Rattle.judy_sums.specs.Levels.{part_of}
use Rattle.judy_sums.proofs.PairLemmas.{head_from, find_none, tail_ascends}
use Rattle.judy_sums.proofs.ChunkLemmas.{sum_put}
use Rattle.judy_sl.specs.World.{World}
use Rattle.judy_sl.specs.Behind.{entry_keys}
use Rattle.judy_sl.specs.Counted.{keys_behind_all}
use Rattle.judy_sl.specs.Listed.{with_entry, IsListing}
use Rattle.judy_sl.proofs.lemmas.places.PageCounts.{front_rest}
use Rattle.judy_sl.proofs.lemmas.seats.Linked.{get-insert_here, get-insert_off}

-- Without pairs there is no sum.
sum_none : (pairs : Pairs) → length pairs ≡ 0 → sum_of pairs ≡ 0
sum_none [] none = refl
sum_none (pair ∷ rest) none = absurd (let never : ⊥ = omega (arith, none) in never)

module _ (world : World) where
  pub listing_start : (list : FinMap word_order ℕ) → list ≡ empty → IsListing world [] list
  listing_start list none = subst (IsListing world []) (sym none) (record {
    listed = record {
      numbers = λ piece. ap (λ (found : Option ℕ). unwrap_or found 0) (get-empty word_order piece);
      some = λ piece number held. absurd (none-some number (sym (get-empty word_order piece) ∙ held));
    };
    sum = (let nothing = sum_none (entries empty) (sym (len-entries empty) ∙ len-empty word_order ℕ) in omega (arith, nothing));
    few = (let nothing = len-empty word_order ℕ in omega (arith, nothing));
  })

  module _ (piece value : ℕ) (rest : Pairs) (ascend : Ascends ((piece, value) ∷ rest)) (list : FinMap word_order ℕ) (so_far : IsListing world rest list) where
    abbrev keys : ℕ
    keys = length (entry_keys world (piece, value))

    -- How many keys stand behind one entry more.
    pub listing_keys : keys_behind_all world ((piece, value) ∷ rest) ≡ keys + keys_behind_all world rest
    listing_keys = ap length (flat_map-cons (entry_keys world) (piece, value) rest) ∙ length-append (entry_keys world (piece, value)) (flat_map (entry_keys world) rest)

    number_none : number_at list piece ≡ 0
    number_none = so_far.listed.numbers piece ∙ ap (λ (found : Option ℕ). length (part_of (entry_keys world) piece found) - 1) (find_none rest piece (head_from (piece, value) rest ascend))

    -- Its piece isn't there yet.
    pub listing_absent : get list piece ≡ None
    listing_absent = by (get list piece) refl
      where
        by : (found : Option ℕ) → get list piece ≡ found → get list piece ≡ None
        by None e = e
        by (Some number) e =
            let some = so_far.listed.some piece number e in
            let told = sym (ap (λ (found : Option ℕ). unwrap_or found 0) e) ∙ number_none in
            let never : ⊥ = omega (arith, some, told) in
            absurd never

    found_here : find word_order piece ((piece, value) ∷ rest) ≡ Some value
    found_here = ap (λ r. cond (is_eq r) (Some value) (find word_order piece rest)) (tied_itself nat_cmp_total piece)

    found_later : (other : ℕ) → other ≢ piece → find word_order other ((piece, value) ∷ rest) ≡ find word_order other rest
    found_later other apart = ap (λ b. cond b (Some value) (find word_order other rest)) (false_from_ne_true (eq_by_cmp word_order other piece)
        (λ tied. apart (same_from_tie nat_cmp-IsAntisymmetric other piece tied)))

    abbrev told : ℕ → Option ℕ → ℕ
    told other found = length (part_of (entry_keys world) other found) - 1

    listing_none : keys ≤ 1 → IsListing world ((piece, value) ∷ rest) list
    listing_none one = record {
      listed = record {
        numbers = λ other. ⊎_elim
            (λ same.
            let here = ap (λ word. told word (find word_order word ((piece, value) ∷ rest))) same ∙ ap (told piece) found_here in
            let nothing = ap (number_at list) same in
            let none = number_none in
            omega (arith, here, nothing, none, one))
            (λ apart. so_far.listed.numbers other ∙ sym (ap (told other) (found_later other apart)))
            (cases_eq other piece);
        some = so_far.listed.some;
      };
      sum = (let all = listing_keys in let sum = so_far.sum in omega (arith, all, sum));
      few = (let few = so_far.few in omega (arith, few));
    }

    abbrev with : FinMap word_order ℕ
    with = insert list piece (keys - 1)

    listing_more : 2 ≤ keys → IsListing world ((piece, value) ∷ rest) with
    listing_more many = record {
      listed = record {
        numbers = λ other. ⊎_elim
            (λ same.
            ap (number_at with) same
            ∙ ap (λ (found : Option ℕ). unwrap_or found 0) (get-insert_here list piece (keys - 1))
            ∙ sym (ap (λ word. told word (find word_order word ((piece, value) ∷ rest))) same ∙ ap (told piece) found_here))
            (λ apart.
            ap (λ (found : Option ℕ). unwrap_or found 0) (get-insert_off list piece (keys - 1) other apart)
            ∙ so_far.listed.numbers other
            ∙ sym (ap (told other) (found_later other apart)))
            (cases_eq other piece);
        some = λ other number held. ⊎_elim
            (λ same.
            let is = same_Some (keys - 1) number (sym (get-insert_here list piece (keys - 1)) ∙ ap (get with) (sym same) ∙ held) in
            omega (arith, is, many))
            (λ apart. so_far.listed.some other number (sym (get-insert_off list piece (keys - 1) other apart) ∙ held))
            (cases_eq other piece);
      };
      sum = (
          let all = listing_keys in
          let sum = so_far.sum in
          let made = ap sum_of (entries-insert nat_cmp_total list piece (keys - 1)) in
          let put_is = sum_put (entries list) piece (keys - 1) (entries_sorted list) in
          omega (arith, all, sum, made, put_is)
          );
      few = (
          let few = so_far.few in
          let long = len-insert nat_cmp_total list piece (keys - 1) ∙ ap (λ (found : Option ℕ). cond (is_some found) (len list) (len list + 1)) listing_absent in
          omega (arith, few, long)
          );
    }

    -- It comes in.
    pub listing_on : IsListing world ((piece, value) ∷ rest) (with_entry list piece keys)
    listing_on = ⊎_elim
        (λ (more : 1 < keys). subst (λ b. IsListing world ((piece, value) ∷ rest) (cond b with list)) (sym (lt-ltb 1 keys more)) (listing_more more))
        (λ (one : keys ≤ 1). subst (λ b. IsListing world ((piece, value) ∷ rest) (cond b with list)) (sym (le-ltb 1 keys one)) (listing_none one))
        (cases_lt 1 keys)

-- ---- one entry more of a page

-- An entry of a page that was read from a place on.
pub page_entry : (all page : Pairs) (start long at : ℕ) → page ≡ take long (drop start all) → at < long → get_or page at (0, 0) ≡ get_or all (start + at) (0, 0)
page_entry all page start long at read below = ap (λ (pairs : Pairs). get_or pairs at (0, 0)) read ∙ get_or-take long (drop start all) at (0, 0) below ∙ get_or-drop start all at (0, 0)

module _ (world : World) (all : Pairs) (ascends : Ascends all) (at left : ℕ) (is : suc at ≡ left) (within : left ≤ length all) (entry : ℕ × ℕ) (here : entry ≡ get_or all at (0, 0))
    (list : FinMap word_order ℕ) (so_far : IsListing world (drop left all) list) where
  page_split : drop at all ≡ (entry.0, entry.1) ∷ drop left all
  page_split = drop-cons all at (0, 0) (omega (arith, is, within)) ∙ ap (λ n. get_or all at (0, 0) ∷ drop n all) is ∙ ap (λ (first : ℕ × ℕ). first ∷ drop left all) (sym here)

  page_ascends : Ascends ((entry.0, entry.1) ∷ drop left all)
  page_ascends = subst Ascends page_split (tail_ascends (take at all) (drop at all) (subst Ascends (sym (take-append-drop at all)) ascends))

  pub page_absent : get list entry.0 ≡ None
  page_absent = listing_absent world entry.0 entry.1 (drop left all) page_ascends list so_far

  pub page_few : length all < 2 ^ 64 → len list + 1 < 2 ^ 64
  page_few few =
      let rest = length-drop left all in
      let words = so_far.few in
      omega (arith, rest, words, is, within, few)

  pub page_fits : keys_behind_all world all < 2 ^ 64 → sum_of (entries list) + length (entry_keys world (entry.0, entry.1)) < 2 ^ 64
  page_fits fits =
      let more = ap (keys_behind_all world) page_split ∙ listing_keys world entry.0 entry.1 (drop left all) page_ascends list so_far in
      let whole = front_rest world all at in
      let sum = so_far.sum in
      omega (arith, more, whole, sum, fits)

  pub page_on : (made : FinMap word_order ℕ) → made ≡ with_entry list entry.0 (length (entry_keys world (entry.0, entry.1))) → IsListing world (drop at all) made
  page_on made made_is =
      subst (λ (pairs : Pairs). IsListing world pairs made) (sym page_split)
      (subst (IsListing world ((entry.0, entry.1) ∷ drop left all)) (sym made_is) (listing_on world entry.0 entry.1 (drop left all) page_ascends list so_far))
