-- What levels tell where a key was tried as one whose first piece leads nowhere.
use Rattle.std.proofs.Common.{◌≡◌, ℕ, Bool, true, false, not, if◌then◌else◌, List, [], length, None, refl, sym, ap, subst, ◌∙◌}
use Rattle.std.specs.FinMap.{FinMap, get, insert, contains_key}
use Rattle.judy_model.specs.Keys.{word_order}
use Rattle.judy_model.specs.Arrays.{ArrayOf, with_map}
use Rattle.judy_word.specs.Held.{with_new}
use Rattle.judy_sl.specs.declared.arena.Arena.{Arena}
use Rattle.judy_sl.specs.declared.arena.Place.{Place}
use Rattle.judy_sl.specs.declared.arena.Place.TheVariants.{Root}
use Rattle.judy_sl.specs.Children.{Tail}
use Rattle.judy_sl.specs.Pieces.{piece_of}
use Rattle.judy_sl.specs.WorldInvariants.{AllLed}
use Rattle.judy_sl.specs.Arenas.{world_of, IsArena}
use Rattle.judy_sl.specs.Ways.{passed_from, levels_passed}
use Rattle.judy_sl.specs.Counted.{AreCounted, AreCountedBut}
use Rattle.judy_sl.specs.Grown.{IsPut, IsAdded}
use Rattle.judy_sl.specs.Listed.{StaysLed}
use Rattle.judy_sl.proofs.lemmas.inserts.Tried.{first-gap, put-first, after-first}
use Rattle.judy_sl.proofs.lemmas.pieces.OnWay.{pieces-head}
use Rattle.judy_sl.proofs.lemmas.counts.PassedLevels.{passed-none}
use Rattle.judy_sl.proofs.lemmas.counts.Growing.{GrowsOn, grows-last, grows-tail, stays-grown, gap-counted}
use Rattle.judy_sl.specs.Strings.{IsString}

-- A word that is there stays with its value.
pub put-present : (map : FinMap word_order ℕ) (word value : ℕ) → false ≡ not (contains_key map word) → with_new map word value ≡ map
put-present map word value = elim (contains_key map word) as (λ (held : Bool). false ≡ not held → (if held then map else insert map word value) ≡ map) [
  | true ↦ λ there. refl
  | false ↦ λ there. cc
]

-- No level is on the way of a key whose first piece is new, so each tells how many keys stand behind it.
module _ (arena : Arena) (is : IsArena arena) (led : AllLed (world_of arena)) (counted : AreCounted arena) (key : List ℕ) (is_key : IsString key) (piece : ℕ)
    (piece_is : piece ≡ piece_of key) (none : get arena.root.map piece ≡ None) where
  none-passed : levels_passed (world_of arena) key ≡ []
  none-passed =
      let head = pieces-head key in
      ap (passed_from (world_of arena) 0) head.1 ∙ passed-none (world_of arena) 0 (piece_of key) head.0 (ap (get arena.root.map) (sym piece_is) ∙ none)

  tried-grows : (words : ArrayOf word_order) (after : Arena) (at : ℕ) (rest : List ℕ × ℕ) → words ≡ with_map arena.root (insert arena.root.map piece at) →
      IsPut (record arena { root = words }) after (Tail rest) at → GrowsOn arena after
  tried-grows words after at rest words_is put =
      grows-tail arena key (Root piece) (length key) (first-gap arena is key is_key piece piece_is none) (record after { root = arena.root }) after at rest
      (put-first arena is key is_key piece piece_is none words after at rest words_is put) (after-first arena is key is_key piece piece_is none words after at rest words_is put)

  short-grows : (words : ArrayOf word_order) → words ≡ with_map arena.root (insert arena.root.map piece 0) → GrowsOn arena (record arena { root = words })
  short-grows words words_is =
      grows-last arena key (Root piece) (length key) (first-gap arena is key is_key piece piece_is none) (record arena { root = words })
      (ap (λ (root : ArrayOf word_order). record arena { root = root }) words_is)

  -- The levels stay.
  pub tried-stays : (words : ArrayOf word_order) (after : Arena) (at : ℕ) (rest : List ℕ × ℕ) → words ≡ with_map arena.root (insert arena.root.map piece at) →
      IsPut (record arena { root = words }) after (Tail rest) at → StaysLed arena after
  tried-stays words after at rest words_is put = stays-grown arena after (tried-grows words after at rest words_is put)

  pub short-stays : (words : ArrayOf word_order) → words ≡ with_map arena.root (insert arena.root.map piece 0) → StaysLed arena (record arena { root = words })
  short-stays words words_is = stays-grown arena (record arena { root = words }) (short-grows words words_is)

  pub tried-counted : (words : ArrayOf word_order) (after : Arena) (at : ℕ) (rest : List ℕ × ℕ) (made : Place) → words ≡ with_map arena.root (insert arena.root.map piece at) →
      IsPut (record arena { root = words }) after (Tail rest) at → IsAdded arena after key made → AreCounted after
  tried-counted words after at rest made words_is put added =
      let gap = first-gap arena is key is_key piece piece_is none in
      let but = gap-counted arena is led counted key is_key (Root piece) (length key) gap after made added (tried-grows words after at rest words_is put) in
      λ k. (subst (AreCountedBut after) none-passed but).others k (λ among. among)

  pub short-counted : (words : ArrayOf word_order) → words ≡ with_map arena.root (insert arena.root.map piece 0) → IsAdded arena (record arena { root = words }) key (Root piece) →
      AreCounted (record arena { root = words })
  short-counted words words_is added =
      let gap = first-gap arena is key is_key piece piece_is none in
      let after : Arena = record arena { root = words } in
      let but = gap-counted arena is led counted key is_key (Root piece) (length key) gap after (Root piece) added (short-grows words words_is) in
      λ k. (subst (AreCountedBut after) none-passed but).others k (λ among. among)
