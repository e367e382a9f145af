-- The text of the store of one array, in the parts that are written one behind the other.
use Rattle.std.proofs.Common.{◌≡◌, ℕ, ◌+◌, ◌*◌, List, [], ◌++◌, length, refl, sym, ap, subst, ◌∙◌, append_assoc, append-nil, length-append, arith}
use Rattle.std.specs.List.{flat_map}
use Rattle.std.specs.FinMap.{FinMap, len, entries, len-entries}
use Rattle.judy_model.specs.Keys.{word_order, byte_order}
use Rattle.judy_model.specs.WordBytes.{low_bytes}
use Rattle.judy_model.specs.Arrays.{ArrayValue, judy1, judyl, judyhs, limit_of, len_of}
use Rattle.judy_model.specs.DumpText as text
use Rattle.judy_model.specs.DumpText.{Version, entries_by, length_order}
use Rattle.judy_saved.specs.Dumps.{most, text_alone, head_text, entry_text, bytes_text}
use Rattle.judy_saved.specs.Rooms.{Adds}
use Rattle.judy_saved.proofs.RoomLemmas.{adds_both, from_front, length_alike}

parts : (heading name kind limit count contents : List ℕ) →
    (heading ++ (((name ++ kind) ++ limit) ++ count)) ++ contents ≡ heading ++ ((name ++ (((kind ++ limit) ++ count) ++ contents)) ++ [])
parts heading name kind limit count contents = simp (append_assoc, append-nil)

module _ (version : Version) (name : List ℕ) (array : ArrayValue) (limits : limit_of array ≡ most) (count : ℕ) (counts : count ≡ len_of array) where
  text_parts : head_text version name (text.kind_number array) count ++ text.contents version array ≡ text_alone version name array
  text_parts =
      ap (λ n. head_text version name (text.kind_number array) n ++ text.contents version array) counts
      ∙ parts (text.magic version ++ low_bytes 4 1) (text.name_text name) (low_bytes 1 (text.kind_number array)) (text.word most) (text.word (len_of array)) (text.contents version array)
      ∙ ap (λ n. (text.magic version ++ low_bytes 4 1) ++ ((text.name_text name ++ (((low_bytes 1 (text.kind_number array) ++ text.word n) ++ text.word (len_of array)) ++ text.contents
      version array)) ++ []))
      (sym limits)

  -- What stands before the keys, and then the keys, are the whole.
  pub adds_alone : (mid end : ℕ) (before half after : List ℕ) → Adds (head_text version name (text.kind_number array) count) 0 before mid half →
      Adds (text.contents version array) mid half end after → Adds (text_alone version name array) 0 before end after
  adds_alone mid end before half after head keys =
      subst (λ all. Adds all 0 before end after) text_parts
      (adds_both (head_text version name (text.kind_number array) count) (text.contents version array) 0 mid end before half after head keys)

  -- Its size.
  pub size_alone : (room half : List ℕ) (head keys : ℕ) → Adds (head_text version name (text.kind_number array) count) 0 room head half → keys ≡ length (text.contents version array) →
      head + keys ≡ length (text_alone version name array)
  size_alone room half head keys adds is =
      let stands = from_front (head_text version name (text.kind_number array) count) room head half adds in
      let both = sym (length-append (head_text version name (text.kind_number array) count) (text.contents version array)) ∙ ap length text_parts in
      let first = stands.ends in
      omega (arith, both, first, is)

-- The same of byte strings that were listed.
pub adds_listed : (version : Version) (name : List ℕ) (m : FinMap byte_order ℕ) (count : ℕ) → count ≡ len m → (listed : List (List ℕ × ℕ)) → listed ≡ entries_by length_order m →
    (before : List ℕ) (end : ℕ) (after : List ℕ) → Adds (head_text version name 4 count ++ flat_map entry_text listed) 0 before end after → Adds (bytes_text version name m) 0 before end after
adds_listed version name m count counts listed is before end after adds =
    subst (λ all. Adds all 0 before end after)
    (ap (λ pairs. head_text version name 4 count ++ flat_map entry_text pairs) is ∙ text_parts version name (judyhs (record { limit = most; map = m })) refl count counts) adds

-- The keys of a set take 8 bytes each, and the entries of a map 16.
pub size_of_set : (version : Version) (m : FinMap word_order ℕ) (count : ℕ) → count ≡ len m → 8 * count ≡ length (text.contents version (judy1 (record { limit = most; map = m })))
size_of_set version m count is =
    ap (λ n. 8 * n) (is ∙ len-entries m) ∙ sym (length_alike (λ (entry : ℕ × ℕ). text.word entry.0) 8 (λ entry. refl) (entries m))

pub size_of_map : (version : Version) (m : FinMap word_order ℕ) (count : ℕ) → count ≡ len m → 16 * count ≡ length (text.contents version (judyl (record { limit = most; map = m })))
size_of_map version m count is =
    ap (λ n. 16 * n) (is ∙ len-entries m) ∙ sym (length_alike (λ (entry : ℕ × ℕ). text.word entry.0 ++ text.word entry.1) 16 (λ entry. refl) (entries m))
