-- A shelf whose arrays were read one by one is a store.
use Rattle.std.proofs.Common.{◌≡◌, ℕ, ◌≤◌, List, [], ◌∷◌, map, length, ⊎_elim, None, All, IsTrue, refl, sym, ap, subst, ◌∙◌, arith}
use Rattle.std.specs.Prelude.{bytes_eq}
use Rattle.std.specs.List.{IsDistinct, AllWithin, slice_get}
use Rattle.std.specs.Map.{keys_of, values_of}
use Rattle.std.proofs.lemmas.List.{length-map}
use Rattle.std.proofs.lemmas.List.Elements.{All-map}
use Rattle.std.proofs.lemmas.Option.{slice_get_cases, none-some}
use Rattle.judy_model.specs.Arrays.{IsArray}
use Rattle.judy_model.specs.Tokens.{is_name}
use Rattle.judy_model.specs.Stores.{IsStore}
use Rattle.judy_shelf.specs.declared.array.Array.{Array}
use Rattle.judy_shelf.specs.Arrays.{value_of}
use Rattle.judy_shelf.specs.Shelves.{Entries, IsShelf, store_of}

-- a name that is one, and an array that is one
abbrev pub IsNamedArray : List ℕ × Array → Type 0
IsNamedArray entry = IsTrue (is_name entry.0) × IsArray (value_of entry.1)

keys_same : (entries : Entries) → keys_of (store_of entries) ≡ keys_of entries
keys_same [] = refl
keys_same (entry ∷ entries) = ap (λ names. entry.0 ∷ names) (keys_same entries)

values_same : (entries : Entries) → values_of (store_of entries) ≡ map (λ entry. value_of entry.1) entries
values_same [] = refl
values_same (entry ∷ entries) = ap (λ arrays. value_of entry.1 ∷ arrays) (values_same entries)

-- where there is no array, all are before
pub past_all : (entries : Entries) (place : ℕ) → None ≡ slice_get entries place → length entries ≤ place
past_all entries place none = ⊎_elim (λ there. absurd (none-some there.0 (none ∙ there.2))) (λ past. past.0) (slice_get_cases entries place).1

pub IsStore-read : (entries : Entries) (place : ℕ) → IsShelf entries → AllWithin IsNamedArray entries 0 place → length entries ≤ place → IsStore (store_of entries)
IsStore-read entries place shelf read all =
    let each : All IsNamedArray entries = λ k d within. read k d (omega arith) (omega arith) in
    record {
      within_limit = subst (λ n. n ≤ 64) (sym (length-map entries _)) shelf.within_limit;
      names_are = subst (All (λ name. IsTrue (is_name name))) (sym (keys_same entries)) (All-map (λ name. IsTrue (is_name name)) (λ entry. entry.0) entries (λ k d within. (each k d within).0));
      names_differ = subst (IsDistinct bytes_eq) (sym (keys_same entries)) shelf.names_differ;
      arrays_are = subst (All IsArray) (sym (values_same entries)) (All-map IsArray (λ entry. value_of entry.1) entries (λ k d within. (each k d within).1));
    }
