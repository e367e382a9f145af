-- What levels tell of the keys behind them where one key more has come in.
use Rattle.std.proofs.Common.{◌≡◌, ◌≢◌, ℕ, suc, List, ◌∷◌, ◌++◌, None, Some, ◌⊎◌, inl, inr, refl, sym, ap, subst, ◌∙◌}
use Rattle.std.specs.FinMap.{FinMap}
use Rattle.judy_model.specs.Keys.{word_order}
use Rattle.judy_model.specs.Arrays.{ArrayOf}
use Rattle.judy_sl.specs.Children.{Child, Free, Tail, Level, IsLevelChild}
use Rattle.judy_sl.specs.declared.arena.Arena.{Arena}
use Rattle.judy_sl.specs.Pieces.{pieces, AreInner}
use Rattle.judy_sl.specs.World.{gone, level, lookup, walk}
use Rattle.judy_sl.specs.WorldInvariants.{AllLed}
use Rattle.judy_sl.specs.Arenas.{world_of, node_of, child_at, IsArena}
use Rattle.judy_sl.specs.Ways.{levels_passed}
use Rattle.judy_sl.specs.Counted.{keys_behind, LevelTells, Same, OneLess, AreCounted, IsAmong, AreCountedBut}
use Rattle.judy_sl.specs.Grown.{IsChange}
use Rattle.judy_sl.specs.Listed.{StaysLed}
use Rattle.judy_sl.proofs.lemmas.counts.PassedLevels.{IsPassed, once-passed, among-way, way-among}
use Rattle.judy_sl.proofs.lemmas.counts.KeptLevels.{IsReached, all-reached, reached-once}
use Rattle.judy_sl.proofs.lemmas.counts.KeysBehind.{keys-reached, keys-stay, keys-come}
use Rattle.judy_sl.specs.Strings.{IsString}

-- A level was one before, and told the same number.
abbrev pub LevelWas : Arena → ℕ → Child → Type 0
LevelWas before at Free = Unit {0}
LevelWas before at (Tail rest) = Unit {0}
LevelWas before at (Level told words) = (was : ArrayOf word_order) × (child_at before at ≡ Level told was)

-- A level that is new tells two keys, and there are two: the one whose tail stood there, and one that has come in.
pub record IsNewLevel (before after : Arena) (at told : ℕ) : Type 0 where
  pub new : (map : FinMap word_order ℕ) → world_of before (suc at) ≢ level map
  pub told_two : told ≡ 2
  pub two : keys_behind (world_of after) (suc at) ≡ 2

-- A level was one before, or it is new.
abbrev pub LevelCame : Arena → Arena → ℕ → Child → Type 0
LevelCame before after at Free = Unit {0}
LevelCame before after at (Tail rest) = Unit {0}
LevelCame before after at (Level told words) = ((was : ArrayOf word_order) × (child_at before at ≡ Level told was)) ⊎ IsNewLevel before after at told

pub came-was : (before after : Arena) (at : ℕ) (child : Child) → LevelWas before at child → LevelCame before after at child
came-was before after at Free was = tt
came-was before after at (Tail rest) was = tt
came-was before after at (Level told words) was = inl was

-- What is seen as a level tells a number.
pub level-told : (child : Child) (map : FinMap word_order ℕ) → node_of child ≡ level map → (told : ℕ) × (words : ArrayOf word_order) × (child ≡ Level told words)
level-told Free map is = absurd (cc)
level-told (Tail rest) map is = absurd (cc)
level-told (Level told words) map is = (told, words, refl)

module _ (before after : Arena) (is : IsArena before) (is_after : IsArena after) (led : AllLed (world_of before)) (counted : AreCounted before) (key : List ℕ) (is_key : IsString key)
    (value : ℕ) (change : IsChange (world_of before) (world_of after) (pieces key) (Some value)) (none : lookup (world_of before) 0 (pieces key) ≡ None) (stays : StaysLed before after) where
  -- A level that was there.
  module _ (at told : ℕ) (was : ArrayOf word_order) (was_is : child_at before at ≡ Level told was) where
    reached : IsReached (world_of before) (suc at)
    reached = all-reached (world_of before) is.behind is.is_world led at (λ gone_is. let g : level was.map ≡ gone = sym (ap node_of was_is) ∙ gone_is in cc)

    way-after : walk (world_of after) 0 reached.front ≡ Some (suc at)
    way-after = (stays at told was was_is).1 reached.front reached.inner reached.way

    told-before : told ≡ keys_behind (world_of before) (suc at)
    told-before = subst (λ child. LevelTells Same child (keys_behind (world_of before) (suc at))) was_is (counted at)

    -- On the key's way it tells one less than there are,
    was-passed : (rest : List ℕ) → pieces key ≡ reached.front ++ rest → suc told ≡ keys_behind (world_of after) (suc at)
    was-passed rest parts =
        sym (
        keys-reached (world_of after) reached.front (suc at) way-after
        ∙ keys-come (world_of before) (world_of after) key value change reached.front reached.inner is_key none rest parts
        ∙ ap (λ n. suc n) (sym (told-before ∙ keys-reached (world_of before) reached.front (suc at) reached.way))
        )

    -- and off it just as many.
    was-off : ((rest : List ℕ) → reached.front ++ rest ≢ pieces key) → told ≡ keys_behind (world_of after) (suc at)
    was-off off =
        told-before
        ∙ keys-reached (world_of before) reached.front (suc at) reached.way
        ∙ sym (keys-stay (world_of before) (world_of after) key value change reached.front reached.inner off)
        ∙ sym (keys-reached (world_of after) reached.front (suc at) way-after)

    among-parts : IsPassed (world_of before) 0 (pieces key) at → (rest : List ℕ) × (pieces key ≡ reached.front ++ rest)
    among-parts passed =
        let way : IsReached (world_of before) (suc at) = record { front = passed.piece ∷ passed.front; inner = passed.inner; way = passed.way } in
        (passed.rest, passed.parts ∙ ap (λ front. front ++ passed.rest) (reached-once (world_of before) is.behind is.is_world (suc at) way reached))

    off-parts : (IsAmong (levels_passed (world_of before) key) at → ⊥) → (rest : List ℕ) → reached.front ++ rest ≢ pieces key
    off-parts off rest same = off (way-among (world_of before) is.behind is.is_world key is_key reached.front rest at was.map reached.inner reached.way (sym same) (ap node_of was_is))

  passed-child : (at : ℕ) (child : Child) → LevelCame before after at child → IsPassed (world_of before) 0 (pieces key) at → LevelTells OneLess child (keys_behind (world_of after) (suc at))
  passed-child at Free came passed = tt
  passed-child at (Tail rest) came passed = tt
  passed-child at (Level told words) (inl was) passed = let on = among-parts at told was.0 was.1 passed in was-passed at told was.0 was.1 on.0 on.1
  passed-child at (Level told words) (inr new) passed = absurd (new.new passed.map passed.is_level)

  other-child : (at : ℕ) (child : Child) → LevelCame before after at child → (IsAmong (levels_passed (world_of before) key) at → ⊥) → LevelTells Same child (keys_behind (world_of after) (suc at))
  other-child at Free came off = tt
  other-child at (Tail rest) came off = tt
  other-child at (Level told words) (inl was) off = was-off at told was.0 was.1 (off-parts at told was.0 was.1 off)
  other-child at (Level told words) (inr new) off = new.told_two ∙ sym new.two

  -- Each level tells its keys but for those that the key's way has passed.
  pub counted-but : ((at : ℕ) → LevelCame before after at (child_at after at)) → AreCountedBut after (levels_passed (world_of before) key)
  counted-but came = record {
    once = once-passed (world_of before) is.behind is.is_world key is_key;
    levels = λ at among.
        let passed = among-way (world_of before) is.behind is.is_world key is_key at among in
        let was = level-told (child_at before at) passed.map passed.is_level in
        (stays at was.0 was.1 was.2).0;
    passed = λ at among. passed-child at (child_at after at) (came at) (among-way (world_of before) is.behind is.is_world key is_key at among);
    others = λ at off. other-child at (child_at after at) (came at) off;
  }
