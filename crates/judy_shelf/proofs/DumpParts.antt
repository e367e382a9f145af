-- The parts of a dump in the order in which they are written.
use Rattle.std.proofs.Common.{◌≡◌, ℕ, List, ◌++◌, length, slice_get, Some, None, Result, option_map, sym, ap, subst, ◌∙◌, append_assoc, refl}
use Rattle.std.specs.List.{flat_map}
use Rattle.std.proofs.lemmas.Option.{slice_get-map}
use Rattle.judy_model.specs.Arrays.{ArrayValue, limit_of, len_of}
use Rattle.judy_model.specs.WordBytes.{low_bytes}
use Rattle.judy_model.specs.DumpText as text
use Rattle.judy_model.specs.DumpText.{Version, array_text, dump_of}
use Rattle.judy_pipe.specs.Pipe.{grown}
use Rattle.judy_shelf.specs.declared.array.Array.{Array}
use Rattle.judy_shelf.specs.Arrays.{value_of}
use Rattle.judy_shelf.specs.Shelves.{Entries, store_of}
use Rattle.judy_shelf.specs.Writes.{Sunk, sunk, WroteAll, WroteFront, Wrote}
use Rattle.judy_shelf.proofs.ShelfLemmas.{length-store_of}
use Rattle.judy_shelf.proofs.WriteLemmas.{wrote_both, wrote_second, wrote_first, wrote_then}

-- What stands before an array's keys.
abbrev pub head_text : List ℕ → ArrayValue → List ℕ
head_text name array = text.name_text name ++ low_bytes 1 (text.kind_number array) ++ text.word (limit_of array) ++ text.word (len_of array)

array_parts : (version : Version) (name : List ℕ) (array : ArrayValue) → head_text name array ++ text.contents version array ≡ array_text version (name, array)
array_parts version name array =
    let kind = low_bytes 1 (text.kind_number array) in
    let limit = text.word (limit_of array) in
    let count = text.word (len_of array) in
    append_assoc (text.name_text name ++ kind ++ limit) count (text.contents version array) ∙ append_assoc (text.name_text name ++ kind) limit (count ++ text.contents version array) ∙
    append_assoc (text.name_text name) kind (limit ++ (count ++ text.contents version array))

module _ (version : Version) (piece name : List ℕ) (array : ArrayValue) (is : piece ≡ head_text name array) (before : Sunk) where
  pub array_stopped : (after : Sunk) → WroteFront piece before after → WroteFront (array_text version (name, array)) before after
  array_stopped after front =
      subst (λ t. WroteFront t before after) (ap (λ t. t ++ text.contents version array) is ∙ array_parts version name array) (wrote_first piece (text.contents version array) before after front)

  pub array_goes_on : {Y E : Type 0} (inside : ArrayValue) (mid after : Sunk) (result : Result Y E) → array ≡ inside → WroteAll piece before mid →
      Wrote (text.contents version inside) mid result after → Wrote (array_text version (name, array)) before result after
  array_goes_on inside mid after result same all rest =
      subst (λ t. Wrote t before result after) (ap (λ t. t ++ text.contents version array) is ∙ array_parts version name array)
      (wrote_then piece (text.contents version array) before mid after result all (subst (λ a. Wrote (text.contents version a) mid result after) (sym same) rest))

-- What stands before the arrays.
abbrev pub heading_text : Version → Entries → List ℕ
heading_text version entries = text.magic version ++ low_bytes 4 (length entries)

module _ (version : Version) (entries : Entries) where
  dump_parts : heading_text version entries ++ flat_map (array_text version) (store_of entries) ≡ dump_of version (store_of entries)
  dump_parts = ap (λ n. text.magic version ++ low_bytes 4 n ++ flat_map (array_text version) (store_of entries)) (sym (length-store_of entries))

  -- The array at a place of a shelf is the one there in its store.
  pub stored_at : (place : ℕ) (name : List ℕ) (array : Array) → Some (name, array) ≡ slice_get entries place → slice_get (store_of entries) place ≡ Some (name, value_of array)
  stored_at place name array at =
      slice_get-map (λ (entry : List ℕ × Array). (entry.0, value_of entry.1)) entries place ∙ ap (option_map (λ (entry : List ℕ × Array). (entry.0, value_of entry.1))) (sym at)

  -- Where no array stands in a shelf, none stands in its store.
  pub not_stored_at : (place : ℕ) → None ≡ slice_get entries place → slice_get (store_of entries) place ≡ None
  not_stored_at place at = slice_get-map (λ (entry : List ℕ × Array). (entry.0, value_of entry.1)) entries place ∙ ap (option_map (λ (entry : List ℕ × Array). (entry.0, value_of entry.1))) (sym at)

  -- What the sink has taken when the heading is written.
  abbrev pub headed : Sunk → Sunk
  headed before = sunk (grown before.taken (heading_text version entries)) before.failures

  module _ (before : Sunk) where
    pub dump_stopped_early : (piece : List ℕ) → piece ≡ heading_text version entries → (after : Sunk) → WroteFront piece before after → WroteFront (dump_of version (store_of entries)) before after
    dump_stopped_early piece is after front =
        subst (λ t. WroteFront t before after) (ap (λ t. t ++ flat_map (array_text version) (store_of entries)) is ∙ dump_parts)
        (wrote_first piece (flat_map (array_text version) (store_of entries)) before after front)

    pub dump_stopped : (after : Sunk) → WroteFront (flat_map (array_text version) (store_of entries)) (headed before) after → WroteFront (dump_of version (store_of entries)) before after
    dump_stopped after front =
        subst (λ t. WroteFront t before after) dump_parts (wrote_second (heading_text version entries) (flat_map (array_text version) (store_of entries)) before
        (headed before) after (refl, refl) front)

    pub dump_done : (after : Sunk) → WroteAll (flat_map (array_text version) (store_of entries)) (headed before) after → WroteAll (dump_of version (store_of entries)) before after
    dump_done after all =
        subst (λ t. WroteAll t before after) dump_parts (wrote_both (heading_text version entries) (flat_map (array_text version) (store_of entries)) before (headed before) after (refl, refl) all)
