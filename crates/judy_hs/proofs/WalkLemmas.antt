-- A walk through the entries of an array of words: what came of them is listed, part by part.
use Rattle.std.proofs.Common.{◌≡◌, ℕ, zero, suc, drop, ◌+◌, ◌<◌, List, [], ◌∷◌, ◌++◌, length, get_or, Some, sym, ap, subst, ◌∙◌, arith}
use Rattle.std.specs.List.{flat_map}
use Rattle.std.specs.Int.{to_be_bytes, w64}
use Rattle.std.proofs.Common.{rules}
use Rattle.std.specs.Cmp.{nat_cmp_total, tied_itself}
use Rattle.std.specs.Ordering.{nat_cmp}
use Rattle.std.specs.FinMap.{FinMap, entries, entries_sorted, get, get-entries}
use Rattle.std.proofs.lemmas.List.{append-nil, append_assoc, flat_map_more, map-append, length-append}
use Rattle.std.proofs.Math.Seq.{get_or-append_seam}
use Rattle.judy_model.specs.Keys.{word_order}
use Rattle.judy_model.proofs.lemmas.maps.Pairs.{find-at}
use Rattle.judy_model.specs.WordBytes.{low_bytes}
use Rattle.judy_hs.specs.Chains.{Pairs}
use Rattle.judy_hs.specs.Listed.{key_bytes, entries_in}
use Rattle.judy_hs.specs.declared.entry.HsEntry.{HsEntry}

-- The next of all that are to come came.
pub came_on : {A : Type 0} (all came left rest : List A) (next : A) → all ≡ came ++ left → left ≡ next ∷ rest → all ≡ (came ++ next ∷ []) ++ rest
came_on all came left rest next is steps = is ∙ ap (λ r. came ++ r) steps ∙ sym (append_assoc came (next ∷ []) rest)

-- None is left, so all came.
pub came_all : {A : Type 0} (all came left : List A) → all ≡ came ++ left → left ≡ [] → came ≡ all
came_all all came left is none = sym (is ∙ ap (λ r. came ++ r) none ∙ append-nil came)

-- What is listed goes on with the part of the next entry.
pub listed_on : (part : ℕ × ℕ → Pairs) (before now after : Pairs) (came : List (ℕ × ℕ)) (entry : ℕ × ℕ) → now ≡ before ++ flat_map part came → after ≡ now ++ part entry →
    after ≡ before ++ flat_map part (came ++ entry ∷ [])
listed_on part before now after came entry is more = more ∙ ap (λ all. all ++ part entry) is ∙ flat_map_more part before came entry

-- The value of an entry that comes is its key's.
pub entry_held : (m : FinMap word_order ℕ) (came rest : List (ℕ × ℕ)) (key value : ℕ) → entries m ≡ came ++ (key, value) ∷ rest → get m key ≡ Some value
entry_held m came rest key value is =
    let there : get_or (entries m) (length came) (key, value) ≡ (key, value) = ap (λ es. get_or es (length came) (key, value)) is ∙ get_or-append_seam came (key, value) rest (key, value) in
    let within : length came < length (entries m) = subst (λ es. length came < length es) (sym is) (omega (arith, length-append came ((key, value) ∷ rest))) in
    get-entries m key ∙ find-at word_order nat_cmp_total (entries m) key (length came) (key, value) (entries_sorted m) within
    (ap (λ e. nat_cmp e.0 key) there ∙ tied_itself nat_cmp_total key) ∙ ap (λ e. Some e.1) there

-- A short key, spelled by a word, with its value.
abbrev pub spelled : ℕ → ℕ × ℕ → Pairs
spelled key_length entry = (low_bytes key_length entry.0, entry.1) ∷ []

pub listed_more : (xs ys : List HsEntry) (new : HsEntry) (pair : List ℕ × ℕ) → ys ≡ xs ++ new ∷ [] → (key_bytes new.key, new.value) ≡ pair → entries_in ys ≡ entries_in xs ++ pair ∷ []
listed_more xs ys new pair pushed same = ap entries_in pushed ∙ map-append (λ (e : HsEntry). (key_bytes e.key, e.value)) xs (new ∷ []) ∙ ap (λ (p : List ℕ × ℕ). entries_in xs ++ p ∷ []) same

-- The lowest bytes of a word are the last of more of its bytes.
pub drop-low_bytes : (more width word : ℕ) → drop more (low_bytes (more + width) word) ≡ low_bytes width word
drop-low_bytes zero width word = let none : 0 + width ≡ width = omega arith in ap (λ n. low_bytes n word) none
drop-low_bytes (suc more) width word = let one : suc more + width ≡ suc (more + width) = omega arith in rw one (drop-low_bytes more width word)

-- Its eight bytes are all of it.
pub be-low_bytes : (word : ℕ) → to_be_bytes w64 word ≡ low_bytes 8 word
be-low_bytes word = search rules
