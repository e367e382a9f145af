-- The entries of an array of each kind: what is read of them is spelled so, and what is spelled so is read.
use Rattle.std.proofs.Common.{◌≡◌, ℕ, T, IfSome, List, [], length, Option, None, refl, sym, ap, ◌∙◌, append-nil, All}
use Rattle.std.specs.declared.cmp.Ordering.{Ordering}
use Rattle.std.specs.Cmp.{IsTotalOrder}
use Rattle.std.specs.FinMap.{FinMap, IsAntisymmetric, is_sorted, from_entries, entries_sorted, len, len-entries}
use Rattle.std.specs.FinMap as map
use Rattle.judy_model.specs.Arrays.{ArrayOf, ArrayValue}
use Rattle.judy_model.specs.Fields.{Parser, done}
use Rattle.judy_model.specs.DumpText.{entries_by}
use Rattle.judy_model.specs.DumpGrammar.{entries, filled}
use Rattle.judy_model.proofs.lemmas.dumps.FieldLemmas.{IsSpelled, sequence-IsSpelled, done-IsSpelled}
use Rattle.judy_model.proofs.lemmas.maps.MadeMaps.{len-from_entries, entries-made_twice, made_twice, entries-made, made_of_entries, All-made}
use Rattle.judy_model.proofs.lemmas.dumps.EntryLemmas.{Ascends, sorted-Ascends, Ascends-sorted, IsEntry, entries_text, entries-IsSpelled}

-- ---- listings of a map

-- A way to list the entries of a map in an order of the keys: each map has one list, and the list makes the map.
pub record IsListing {K : Type 0} {order : K → K → Ordering} (by : K → K → Ordering) (listing : FinMap order ℕ → List (K × ℕ)) : Type 1 where
  pub total : IsTotalOrder by
  pub sorted : (m : FinMap order ℕ) → T (is_sorted by (listing m))
  pub long : (m : FinMap order ℕ) → length (listing m) ≡ len m
  pub makes : (m : FinMap order ℕ) → from_entries {R = order} (listing m) ≡ m
  pub made : (pairs : List (K × ℕ)) → T (is_sorted by pairs) → listing (from_entries pairs) ≡ pairs
  pub to : (P : K × ℕ → Type 0) → ((key : K) (before after : ℕ) (other : K) → P (key, before) → P (other, after) → P (key, after)) → (m : FinMap order ℕ) → All P (map.entries m) → All P (listing m)
  pub from : (P : K × ℕ → Type 0) → ((key : K) (before after : ℕ) (other : K) → P (key, before) → P (other, after) → P (key, after)) → (pairs : List (K × ℕ)) →
      All P pairs → All P (map.entries (from_entries {R = order} pairs))

-- In their own order.
pub entries-IsListing : {K : Type 0} {order : K → K → Ordering} → IsTotalOrder order → IsAntisymmetric order → IsListing {order = order} order map.entries
entries-IsListing total same = record {
  total = total;
  sorted = entries_sorted;
  long = λ m. sym (len-entries m);
  makes = made_of_entries total same;
  made = entries-made total same;
  to = λ P over m all. all;
  from = All-made total;
}

-- In another.
pub entries_by-IsListing : {K : Type 0} {order : K → K → Ordering} (by : K → K → Ordering) → IsTotalOrder order → IsAntisymmetric order → IsTotalOrder by →
    IsAntisymmetric by → IsListing {order = order} by (entries_by by)
entries_by-IsListing {order = order} by total same by_total by_same = record {
  total = by_total;
  sorted = λ m. entries_sorted _;
  long = λ m. sym (len-entries _) ∙ len-from_entries order by total same by_total by_same (map.entries m) (entries_sorted m) ∙ sym (len-entries m);
  makes = made_twice by order by_total by_same total same;
  made = λ pairs sorted. entries-made_twice by order by_total by_same total same pairs sorted;
  to = λ P over m all. All-made by_total P over (map.entries m) all;
  from = All-made total;
}

-- ---- what an array of one kind gives

module _ {K : Type 0} {order : K → K → Ordering} (by : K → K → Ordering) (listing : FinMap order ℕ → List (K × ℕ)) (IsKey : K → Type 0) (IsValue : ℕ → Type 0)
    (key_text : Option K → K → List ℕ) (value_text : ℕ → List ℕ) (key : Option K → Parser K) (value : Parser ℕ)
    (made : ArrayOf order → ArrayValue) (whole : ArrayValue → List ℕ) (limit count : ℕ) where
  -- An array of the kind and the limit, with so many keys.
  abbrev pub IsFilled : ArrayValue → Type 0
  IsFilled array = (inside : ArrayOf order) × (array ≡ made inside) × (inside.limit ≡ limit) × (len inside.map ≡ count) × All (IsEntry IsKey IsValue) (map.entries inside.map)

  pub filled-IsSpelled : IsListing by listing → ((before : Option K) → IfSome before IsKey → IsSpelled IsKey (key_text before) (key before)) → IsSpelled IsValue value_text value
      → ((inside : ArrayOf order) → whole (made inside) ≡ entries_text key_text value_text None (listing inside.map))
      → IsSpelled IsFilled whole (filled made limit (entries by key value None count))
  filled-IsSpelled lists keys values spelled =
      let P = IsEntry IsKey IsValue in
      let write = entries_text key_text value_text None in
      let over : (k : K) (before after : ℕ) (other : K) → P (k, before) → P (other, after) → P (k, after) = λ k before after other one two. (one.0, two.1) in
      let array : List (K × ℕ) → ArrayValue = λ held. made (record { limit = limit; map = from_entries held }) in
      sequence-IsSpelled (λ pairs. (length pairs ≡ count) × Ascends by None pairs × All P pairs) write (entries by key value None count)
      (λ held y. y ≡ array held) (λ held y. []) (λ held. done (array held)) IsFilled whole
      (entries-IsSpelled by IsKey IsValue key_text value_text key value keys values count None tt)
      (λ held _. done-IsSpelled (array held))
      (λ y fits.
      let inside = fits.0 in
      let held = listing inside.map in
      let same : inside ≡ record { limit = limit; map = from_entries held } = λ t. record { limit = fits.2 t; map = sym (lists.makes inside.map) t } in (
        held,
        (lists.long inside.map ∙ fits.3, Ascends-sorted by held (lists.sorted inside.map), lists.to P over inside.map fits.4),
        fits.1 ∙ ap made same,
        ap whole fits.1 ∙ spelled inside ∙ sym (append-nil (write held)),
      ))
      (λ held y fits same.
      let inside : ArrayOf order = record { limit = limit; map = from_entries held } in
      let sorted = sorted-Ascends by lists.total None held fits.1 in
      let listed = lists.made held sorted in
      ((inside, same, refl, sym (lists.long inside.map) ∙ ap length listed ∙ fits.0, lists.from P over held fits.2), ap whole same ∙ spelled inside ∙ ap write listed ∙ sym (append-nil (write held))))
