-- What levels tell where a branch has taken the place of a tail.
use Rattle.std.proofs.Common.{◌≡◌, ◌≢◌, ℕ, suc, List, [], ◌∷◌, ◌++◌, None, Some, inl, inr, refl, sym, ap, subst, ◌∙◌}
use Rattle.std.proofs.lemmas.List.{append_assoc}
use Rattle.std.specs.FinMap.{FinMap}
use Rattle.judy_model.specs.Keys.{word_order}
use Rattle.judy_model.specs.Arrays.{ArrayOf}
use Rattle.judy_sl.specs.Children.{Child, Free, Tail, Level, IsLevelChild}
use Rattle.judy_sl.specs.declared.arena.Arena.{Arena}
use Rattle.judy_sl.specs.declared.arena.Place.{Place}
use Rattle.judy_sl.specs.declared.branches.Branch.{Branch}
use Rattle.judy_sl.specs.Pieces.{pieces, AreInner, SpellKey}
use Rattle.judy_sl.specs.World.{gone, tail, level, lookup, walk}
use Rattle.judy_sl.specs.WorldInvariants.{AllLed}
use Rattle.judy_sl.specs.Arenas.{world_of, node_of, child_at, IsArena}
use Rattle.judy_sl.specs.Ways.{left_of, levels_passed}
use Rattle.judy_sl.specs.Counted.{keys_behind, AreCountedBut}
use Rattle.judy_sl.specs.Grown.{IsChange, IsGraft}
use Rattle.judy_sl.specs.Listed.{StaysLed}
use Rattle.judy_sl.proofs.lemmas.pieces.Ways.{step-parts, walk-append}
use Rattle.judy_sl.proofs.lemmas.inserts.Filled.{level-there}
use Rattle.judy_sl.proofs.lemmas.inserts.Written.{behind-leads}
use Rattle.judy_sl.proofs.lemmas.seats.Keeping.{clash-none}
use Rattle.judy_sl.proofs.lemmas.counts.KeptLevels.{IsReached, all-reached, reached-behind}
use Rattle.judy_sl.proofs.lemmas.counts.KeysBehind.{keys_after, keys-reached, keys-come, keys-tail, rest-key}
use Rattle.judy_sl.proofs.lemmas.counts.CountedAdded.{LevelCame, level-told, counted-but}
use Rattle.judy_sl.proofs.lemmas.counts.GraftedLevels.{IsBetween, LevelMade}

-- A level that was there is one still, and stands behind the same pieces.
abbrev pub StandsBehind : (before after : Arena) → IsArena before → IsArena after → Type 0
StandsBehind before after was is = (at told : ℕ) (words : ArrayOf word_order) → child_at before at ≡ Level told words → IsLevelChild (child_at after at) × (is.behind (suc at) ≡ was.behind (suc at))

module _ (before after : Arena) (key : List ℕ) (from : Place) (at left : ℕ) (branch : Branch) (graft : IsGraft before key from at left branch) (was : IsArena before)
    (is : IsArena after) (led : AllLed (world_of after)) (change : IsChange (world_of before) (world_of after) (pieces key) (Some 0)) (stands : StandsBehind before after was is)
    (made : (k : ℕ) → LevelMade before graft.clash.leads.front graft.clash.held (pieces (left_of key left)) (is.behind (suc k)) k (child_at after k)) where
  abbrev front : List ℕ
  front = graft.clash.leads.front

  abbrev held : List ℕ
  held = graft.clash.held

  abbrev new : List ℕ
  new = pieces (left_of key left)

  pub grafted-stays : StaysLed before after
  grafted-stays k told words e =
      let there = stands k told words e in
      let reached = all-reached (world_of after) is.behind is.is_world led k (λ none. level-there (child_at after k) there.0 none) in (
        there.0,
        λ ps inner way.
            let same : reached.front ≡ ps = sym (reached-behind (world_of after) is.behind is.is_world (suc k) reached) ∙ there.1 ∙
            reached-behind (world_of before) was.behind was.is_world (suc k) (record { front = ps; inner = inner; way = way }) in
            subst (λ f. walk (world_of after) 0 f ≡ Some (suc k)) same reached.way,
      )

  -- No level was behind the tail.
  tail-last : (mid : List ℕ) (k : ℕ) (map : FinMap word_order ℕ) → walk (world_of before) (suc at) mid ≡ Some (suc k) → world_of before (suc k) ≡ level map → ⊥
  tail-last [] k map way is_level =
      let same : at ≡ k = cc in
      let node : tail held graft.clash.value ≡ level map = sym graft.clash.is_tail ∙ ap (λ n. world_of before (suc n)) same ∙ is_level in
      cc
  tail-last (piece ∷ mid) k map way is_level =
      let step = step-parts (world_of before (suc at)) piece (λ found. walk (world_of before) (suc found) mid) (suc k) way in
      let node : tail held graft.clash.value ≡ level step.map = sym graft.clash.is_tail ∙ step.is in
      cc

  absent : lookup (world_of before) 0 (pieces key) ≡ None
  absent = clash-none (world_of before) key from at left graft.clash

  -- A level that stands between is new, and two keys are behind it: one was there.
  module _ (k : ℕ) (level_is : world_of after (suc k) ≢ gone) (between : IsBetween front held new (is.behind (suc k))) where
    reached : IsReached (world_of after) (suc k)
    reached = all-reached (world_of after) is.behind is.is_world led k level_is

    front-is : reached.front ≡ front ++ between.mid
    front-is = sym (reached-behind (world_of after) is.behind is.is_world (suc k) reached) ∙ between.place_is

    parts : pieces key ≡ reached.front ++ between.new_more
    parts =
        graft.clash.leads.parts
        ∙ ap (λ ps. front ++ ps) between.new_is
        ∙ sym (append_assoc front between.mid between.new_more)
        ∙ ap (λ f. f ++ between.new_more) (sym front-is)

    between-new : (map : FinMap word_order ℕ) → world_of before (suc k) ≢ level map
    between-new map was_level =
        let old = level-told (child_at before k) map was_level in
        let came = all-reached (world_of before) was.behind was.is_world graft.led k (λ none. let g : gone ≡ level map = sym none ∙ was_level in cc) in
        let place : came.front ≡ front ++ between.mid = sym (reached-behind (world_of before) was.behind was.is_world (suc k) came) ∙ sym (stands k old.0 old.1 old.2).1 ∙ between.place_is in
        tail-last between.mid k map (sym (walk-append (world_of before) 0 front between.mid (suc at) graft.clash.leads.way) ∙ ap (walk (world_of before) 0) (sym place) ∙ came.way) was_level

    held-left : SpellKey between.held_more
    held-left =
        let spells = was.is_world.tails (suc at) held graft.clash.value graft.clash.is_tail in
        rest-key (front ++ between.mid) between.held_more spells.key (subst AreInner front-is reached.inner) spells.is_key (
        spells.spells
        ∙ ap (λ f. f ++ held) (behind-leads (world_of before) was.behind was.is_world key (suc at) new graft.clash.leads)
        ∙ ap (λ ps. front ++ ps) between.held_is
        ∙ sym (append_assoc front between.mid between.held_more)
        )

    between-two : keys_behind (world_of after) (suc k) ≡ 2
    between-two =
        keys-reached (world_of after) reached.front (suc k) reached.way
        ∙ keys-come (world_of before) (world_of after) key 0 change reached.front reached.inner graft.is_key absent between.new_more parts
        ∙ ap (λ f. suc (keys_after (world_of before) f)) front-is
        ∙ ap (λ n. suc n) (keys-tail (world_of before) front (suc at) graft.clash.leads.way between.mid between.held_more graft.clash.value
        (graft.clash.is_tail ∙ ap (λ ps. tail ps graft.clash.value) between.held_is) held-left)

  came-made : (k : ℕ) (child : Child) → child_at after k ≡ child → LevelMade before front held new (is.behind (suc k)) k child → LevelCame before after k child
  came-made k Free e made_is = tt
  came-made k (Tail rest) e made_is = tt
  came-made k (Level told found) e (inl stood) = inl stood
  came-made k (Level told found) e (inr new_is) =
      let level_is : world_of after (suc k) ≢ gone = (λ none. let g : level found.map ≡ gone = sym (ap node_of e) ∙ none in cc) in
      inr (record { new = between-new k level_is new_is.1; told_two = new_is.0; two = between-two k level_is new_is.1 })

  -- Each level that the new key's way has passed tells one key less than stand behind it.
  pub grafted-counted : AreCountedBut after (levels_passed (world_of before) key)
  grafted-counted = counted-but before after was is graft.led graft.counted key graft.is_key 0 change absent grafted-stays (λ k. came-made k (child_at after k) refl (made k))
