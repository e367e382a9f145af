-- The arrays of a shelf in a list, one by one.
use Rattle.std.proofs.Common.{◌≡◌, ℕ, ◌+◌, List, [], ◌∷◌, ◌++◌, take, Some, None, refl, sym, ap, ◌∙◌, zero, suc, append-nil}
use Rattle.std.specs.Prelude.{flat_map}
use Rattle.std.specs.List.{slice_get}
use Rattle.std.proofs.Math.Seq.{take-suc}
use Rattle.std.proofs.Math.Numerals.{suc-eq-add-one}
use Rattle.std.proofs.lemmas.List.{map-append}
use Rattle.std.proofs.lemmas.Grind.{flat_map-append}
use Rattle.std.proofs.lemmas.Option.{slice_get_within, get_or_from_slice_get}
use Rattle.judy_model.specs.Replies.{listing_text}
use Rattle.judy_shelf.specs.declared.array.Array.{Array}
use Rattle.judy_shelf.specs.Arrays.{value_of}
use Rattle.judy_shelf.specs.Shelves.{Entries, store_of}

-- what the list has of the first arrays
abbrev pub listed_of : ℕ → Entries → List ℕ
listed_of count entries = flat_map listing_text (store_of (take count entries))

taken : (entries : Entries) (place : ℕ) (name : List ℕ) (array : Array) → slice_get entries place ≡ Some (name, array) → take (place + 1) entries ≡ take place entries ++ (name, array) ∷ []
taken entries place name array there =
    ap (λ n. take n entries) (sym (suc-eq-add-one place))
    ∙ take-suc entries place (name, array) (slice_get_within entries place _ there)
    ∙ ap (λ entry. take place entries ++ entry ∷ []) (get_or_from_slice_get entries place (name, array) (name, array) there)

-- the next array comes behind
pub listed_of-next : (entries : Entries) (place : ℕ) (name : List ℕ) (array : Array) → Some (name, array) ≡ slice_get entries place →
    listed_of (place + 1) entries ≡ listed_of place entries ++ listing_text (name, value_of array)
listed_of-next entries place name array there =
    ap (λ front. flat_map listing_text (store_of front)) (taken entries place name array (sym there))
    ∙ ap (flat_map listing_text) (map-append _ (take place entries) ((name, array) ∷ []))
    ∙ flat_map-append listing_text (store_of (take place entries)) ((name, value_of array) ∷ [])
    ∙ ap (λ last. listed_of place entries ++ last) (append-nil (listing_text (name, value_of array)))

past : (entries : Entries) (place : ℕ) → slice_get entries place ≡ None → take place entries ≡ entries
past [] zero none = refl
past [] (suc place) none = refl
past (entry ∷ entries) zero none = absurd (cc)
past (entry ∷ entries) (suc place) none = ap (λ rest. entry ∷ rest) (past entries place none)

-- past the last array, the list has them all
pub listed_of-all : (entries : Entries) (place : ℕ) → None ≡ slice_get entries place → listed_of place entries ≡ flat_map listing_text (store_of entries)
listed_of-all entries place none = ap (λ front. flat_map listing_text (store_of front)) (past entries place (sym none))
