-- Places of levels and places of tails.
use Rattle.std.proofs.Common.{◌≡◌, ◌≢◌, ℕ, ◌%◌, ◌/◌, true, false, cond, set, List, Option, None, Some, IsSome, refl, sym, ap, subst, ◌∙◌, arith}
use Rattle.std.proofs.lemmas.Bool.{eqb-true}
use Rattle.std.proofs.lemmas.List.{set-get_or}
use Rattle.std.proofs.lemmas.Option.{same_Some}
use Rattle.slab.specs.Slab as slab
use Rattle.judy_model.specs.Keys.{word_order}
use Rattle.judy_model.specs.Arrays.{ArrayOf}
use Rattle.judy_sl.specs.declared.arena.Arena.{Arena}
use Rattle.judy_sl.specs.declared.arena.Place.TheVariants.{Below}
use Rattle.judy_word.specs.Writes.{with_value}
use Rattle.judy_sl.specs.LevelLists.{LevelParts, keys_in, words_in, with_words}
use Rattle.judy_tails.specs.Tails.{tail_at, Updates}
use Rattle.judy_sl.specs.Children.{Child, Free, Tail, Level, is_level, level_child, tail_child, child_with, keys_told, level_of, IsTaken, IsLevelChild}
use Rattle.judy_sl.specs.Arenas.{child_at}
use Rattle.judy_sl.specs.Places.{with_child, place_with}
use Rattle.judy_sl.specs.Shrunk.{IsVacated}
use Rattle.judy_sl.proofs.lemmas.seats.Linked.{CanHold}

-- ---- what stands at a place, by its kind

some_level : (slot : Option LevelParts) → IsTaken (level_child slot) → IsSome slot
some_level None taken = absurd taken
some_level (Some parts) taken = refl

some_tail : (slot : Option (List ℕ × ℕ)) → IsTaken (tail_child slot) → IsSome slot
some_tail None taken = absurd taken
some_tail (Some rest) taken = refl

level_from : (slot : Option LevelParts) → words_in slot ≡ level_of (level_child slot)
level_from None = refl
level_from (Some parts) = refl

level_read : (slot : Option LevelParts) (words : ArrayOf word_order) → words_in slot ≡ Some words → level_child slot ≡ Level (keys_told (level_child slot)) words
level_read None words is = absurd (cc)
level_read (Some parts) words is = ap (λ (held : ArrayOf word_order). Level parts.keys held) (same_Some parts.words words is)

words_back : (slot : Option LevelParts) (words : ArrayOf word_order) → words_in slot ≡ Some words → Some (record { keys = keys_in slot; words = words }) ≡ slot
words_back None words is = absurd (cc)
words_back (Some parts) words is = ap (λ (held : ArrayOf word_order). Some (record { keys = parts.keys; words = held })) (sym (same_Some parts.words words is))

number_read : (slot : Option LevelParts) → keys_in slot ≡ keys_told (level_child slot)
number_read None = refl
number_read (Some parts) = refl

level_taken : (slot : Option LevelParts) → IsTaken (level_child slot) → IsLevelChild (level_child slot)
level_taken None taken = taken
level_taken (Some parts) taken = tt

no_level : (slot : Option (List ℕ × ℕ)) → None ≡ level_of (tail_child slot)
no_level None = refl
no_level (Some rest) = refl

module _ (arena : Arena) (at : ℕ) where
  pub child-level : is_level at ≡ true → child_at arena at ≡ level_child (slab.get arena.levels (at / 256))
  child-level is = ap (λ b. cond b (level_child (slab.get arena.levels (at / 256))) (tail_child (tail_at arena.tails at))) is

  pub child-tail : is_level at ≡ false → child_at arena at ≡ tail_child (tail_at arena.tails at)
  child-tail is = ap (λ b. cond b (level_child (slab.get arena.levels (at / 256))) (tail_child (tail_at arena.tails at))) is

  -- What is taken stands in the list of its kind.
  pub taken-level : is_level at ≡ true → IsTaken (child_at arena at) → slab.ContainsKey arena.levels (at / 256)
  taken-level is taken = some_level (slab.get arena.levels (at / 256)) (subst IsTaken (child-level is) taken)

  pub taken-tail : is_level at ≡ false → IsTaken (child_at arena at) → IsSome (tail_at arena.tails at)
  taken-tail is taken = some_tail (tail_at arena.tails at) (subst IsTaken (child-tail is) taken)

  pub level-stood : is_level at ≡ true → (words : ArrayOf word_order) → words_in (slab.get arena.levels (at / 256)) ≡ Some words → Some words ≡ level_of (child_at arena at)
  level-stood is words there = sym there ∙ level_from (slab.get arena.levels (at / 256)) ∙ ap level_of (sym (child-level is))

  pub no-level-stood : is_level at ≡ false → None ≡ level_of (child_at arena at)
  no-level-stood is = no_level (tail_at arena.tails at) ∙ ap level_of (sym (child-tail is))

  -- The entries of a level that stands there are read, and its number.
  pub level-read : is_level at ≡ true → (words : ArrayOf word_order) → words_in (slab.get arena.levels (at / 256)) ≡ Some words → child_at arena at ≡ Level (keys_told (child_at arena at)) words
  level-read is words there =
      child-level is
      ∙ level_read (slab.get arena.levels (at / 256)) words there
      ∙ ap (λ child. Level (keys_told child) words) (sym (child-level is))

  pub number-read : is_level at ≡ true → keys_in (slab.get arena.levels (at / 256)) ≡ keys_told (child_at arena at)
  number-read is = number_read (slab.get arena.levels (at / 256)) ∙ ap keys_told (sym (child-level is))

  -- What is written into its entries is written at the place,
  pub level-lent : is_level at ≡ true → (words : ArrayOf word_order) → words_in (slab.get arena.levels (at / 256)) ≡ Some words → (piece value : ℕ) →
      record arena { levels = with_words arena.levels (at / 256) (with_value words piece value) } ≡ place_with arena (Below at piece) value
  level-lent is words there piece value =
      let keys = number-read is in
      (λ i. record arena { levels = slab.with_value arena.levels (at / 256) (record { keys = keys i; words = with_value words piece value }) })
      ∙ sym (ap (λ child. with_child arena at (child_with child piece value)) (level-read is words there))

  -- and where nothing is, all stays.
  pub level-back : (words : ArrayOf word_order) → words_in (slab.get arena.levels (at / 256)) ≡ Some words → record arena { levels = with_words arena.levels (at / 256) words } ≡ arena
  level-back words there =
      ap (λ (slot : Option LevelParts). record arena { levels = record arena.levels { slots = set arena.levels.slots (at / 256) slot } }) (words_back (slab.get arena.levels (at / 256)) words there)
      ∙ ap (λ (slots : List (Option LevelParts)). record arena { levels = record arena.levels { slots = slots } }) (set-get_or arena.levels.slots (at / 256) None)

  -- What is taken at a place of levels is a level,
  pub level-taken : is_level at ≡ true → IsTaken (child_at arena at) → IsLevelChild (child_at arena at)
  level-taken is taken = subst IsLevelChild (sym (child-level is)) (level_taken (slab.get arena.levels (at / 256)) (subst IsTaken (child-level is) taken))

-- Where a level stands, another may.
pub holds-level : (arena : Arena) (at : ℕ) (child : Child) → IsLevelChild child → IsLevelChild (child_at arena at) → CanHold arena at child
holds-level arena at Free is there = absurd is
holds-level arena at (Tail rest) is there = absurd is
holds-level arena at (Level keys words) is there = by_child (child_at arena at) refl there
  where
    by_child : (was : Child) → child_at arena at ≡ was → IsLevelChild was → (told : ℕ) × (held : ArrayOf word_order) × (child_at arena at ≡ Level told held)
    by_child Free e there = absurd there
    by_child (Tail rest) e there = absurd there
    by_child (Level told held) e there = (told, held, e)

-- ---- what stood at a place is taken out of its list

-- Two places of levels stand at two keys of their list.
other-key : (k at : ℕ) → is_level k ≡ true → is_level at ≡ true → k ≢ at → k / 256 ≢ at / 256
other-key k at one other apart =
    let first = eqb-true (k % 256) 255 one in
    let second = eqb-true (at % 256) 255 other in
    omega (arith, first, second)

module _ (before after : Arena) (at : ℕ) (root : after.root ≡ before.root) where
  pub level-vacated : is_level at ≡ true → slab.Updates before.levels after.levels (at / 256) None → after.tails ≡ before.tails → IsVacated before after at
  level-vacated is updates tails = record {
    here = child-level after at is ∙ ap level_child updates.changed;
    elsewhere = λ k apart. elim (is_level k) as (λ b. is_level k ≡ b → child_at after k ≡ child_at before k) [
      | true ↦ λ e. child-level after k e ∙ ap level_child (updates.others (k / 256) (other-key k at e is apart)) ∙ sym (child-level before k e)
      | false ↦ λ e. child-tail after k e ∙ ap (λ all. tail_child (tail_at all k)) tails ∙ sym (child-tail before k e)
    ] refl;
    root = root;
  }

  pub tail-vacated : is_level at ≡ false → Updates before.tails after.tails at None → after.levels ≡ before.levels → IsVacated before after at
  tail-vacated is updates levels = record {
    here = child-tail after at is ∙ ap tail_child updates.here;
    elsewhere = λ k apart. elim (is_level k) as (λ b. is_level k ≡ b → child_at after k ≡ child_at before k) [
      | true ↦ λ e. child-level after k e ∙ ap (λ list. level_child (slab.get list (k / 256))) levels ∙ sym (child-level before k e)
      | false ↦ λ e. child-tail after k e ∙ ap tail_child (updates.elsewhere k apart) ∙ sym (child-tail before k e)
    ] refl;
    root = root;
  }
