-- The sorted lists of a shelf, array by array.
use Rattle.std.proofs.Common.{◌≡◌, ℕ, zero, suc, ◌+◌, ◌<◌, ◌≤◌, List, [], ◌∷◌, ◌++◌, length, take, get_or, map, slice_get, option_map, option_copied, true, false, Option, Some}
use Rattle.std.proofs.Common.{None, IsSome, IfSome, refl, sym, ap, subst, ◌∙◌}
use Rattle.std.specs.Borrow.{Bor}
use Rattle.std.proofs.lemmas.List.{length-append, length-map}
use Rattle.std.proofs.lemmas.Option.{slice_get-map, slice_get-get_or, slice_get_past, slice_get_within}
use Rattle.judy_hs.specs.declared.entry.HsEntry.{HsEntry}
use Rattle.judy_hs.specs.Listed.{key_bytes}
use Rattle.judy_shelf.specs.declared.array.Array.{Array}
use Rattle.judy_shelf.specs.declared.sorted.SortedKeys.{SortedKeys}
use Rattle.judy_shelf.specs.Shelves.{Entries}
use Rattle.judy_shelf.specs.Sorted.{pairs_in, lists_in, sorted_in, sorted_lists}
use Rattle.judy_shelf.proofs.WalkLemmas.{take_one}

-- The key and the value of an entry stand at its place.
pub pair_at : (list : SortedKeys) (items : List HsEntry) → items ≡ list.entries.items → (place : ℕ) → place < length items → (entry : HsEntry) →
    entry ≡ get_or items place entry → slice_get (pairs_in list) place ≡ Some (key_bytes entry.key, entry.value)
pair_at list items is place within entry at =
    let pair : HsEntry → List ℕ × ℕ = λ e. (key_bytes e.key, e.value) in
    ap (λ (es : List HsEntry). slice_get (map pair es) place) (sym is) ∙ slice_get-map pair items place ∙ ap (option_map pair) (slice_get-get_or items place entry within) ∙
    ap (λ (e : HsEntry). Some (pair e)) (sym at)

-- Behind all entries stands none.
pub no_pair_at : (list : SortedKeys) (items : List HsEntry) → items ≡ list.entries.items → (place : ℕ) → length items ≤ place → slice_get (pairs_in list) place ≡ None
no_pair_at list items is place past =
    let pair : HsEntry → List ℕ × ℕ = λ e. (key_bytes e.key, e.value) in
    ap (λ (es : List HsEntry). slice_get (map pair es) place) (sym is) ∙ slice_get-map pair items place ∙ ap (option_map pair) (slice_get_past items place past)

behind : {X : Type 0} (front ones others : List X) → slice_get (front ++ ones) (length (front ++ others)) ≡ slice_get ones (length others)
behind [] ones others = refl
behind (x ∷ front) ones others = behind front ones others

-- The list of an array stands behind those of the arrays before it.
pub list_at : (entries : Entries) (place : ℕ) (entry : List ℕ × Array) (list : List (List ℕ × ℕ)) → slice_get entries place ≡ Some entry → sorted_in entry.1 ≡ list ∷ [] →
    slice_get (sorted_lists entries) (length (sorted_lists (take place entries))) ≡ Some list
list_at [] place entry list at is = absurd cc
list_at (one ∷ entries) zero entry list at is =
    let same : one ≡ entry = cc in
    ap (λ (e : List ℕ × Array). slice_get (sorted_in e.1 ++ sorted_lists entries) 0) same ∙ ap (λ (l : List (List (List ℕ × ℕ))). slice_get (l ++ sorted_lists entries) 0) is
list_at (one ∷ entries) (suc place) entry list at is =
    behind (sorted_in one.1) (sorted_lists entries) (sorted_lists (take place entries)) ∙ list_at entries place entry list at is

-- The lists up to and with those of an array.
pub lists_more : (entries : Entries) (place : ℕ) (entry : List ℕ × Array) → slice_get entries place ≡ Some entry →
    sorted_lists (take (suc place) entries) ≡ sorted_lists (take place entries) ++ sorted_in entry.1
lists_more entries place entry at = take_one (λ (e : List ℕ × Array). sorted_in e.1) entries place entry at

pub lists_counted : (entries : Entries) (place : ℕ) (entry : List ℕ × Array) → slice_get entries place ≡ Some entry →
    length (sorted_lists (take (suc place) entries)) ≡ length (sorted_lists (take place entries)) + length (sorted_in entry.1)
lists_counted entries place entry at = ap length (lists_more entries place entry at) ∙ length-append (sorted_lists (take place entries)) (sorted_in entry.1)

-- What is found at a place among lists.
pub found_list : (found : Option (Bor SortedKeys)) (lists : List SortedKeys) (place : ℕ) (pairs : List (List ℕ × ℕ)) → slice_get (lists_in lists) place ≡ Some pairs →
    (place < length lists → IsSome found) → IfSome found (λ one. one.now ≡ get_or lists place one.now) → option_map pairs_in (option_copied found) ≡ Some pairs
found_list None lists place pairs at there is =
    let missing : false ≡ true = there (subst (λ n. place < n) (length-map lists pairs_in) (slice_get_within (lists_in lists) place pairs at)) in
    absurd cc
found_list (Some one) lists place pairs at there is =
    let within = subst (λ n. place < n) (length-map lists pairs_in) (slice_get_within (lists_in lists) place pairs at) in
    ap (λ (keys : SortedKeys). Some (pairs_in keys)) is ∙ sym (slice_get-map pairs_in lists place ∙ ap (option_map pairs_in) (slice_get-get_or lists place one.now within)) ∙ at
