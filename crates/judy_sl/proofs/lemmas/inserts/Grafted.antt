-- A branch that takes the place of a tail: from its fork up, level by level.
use Rattle.std.proofs.Common.{◌≡◌, ◌≢◌, ℕ, suc, ◌*◌, ◌<◌, ◌≤◌, List, [], ◌∷◌, ◌++◌, length, drop, Option, None, Some, IsTrue, is_some, ◌⊎◌, inl, inr, refl, sym, ap, subst, ◌∙◌, arith}
use Rattle.std.proofs.lemmas.Bool.{cases_eq}
use Rattle.std.proofs.lemmas.List.{append_assoc, length-append, length-drop}
use Rattle.std.specs.Map.{keys_of}
use Rattle.std.specs.FinMap.{FinMap, get, insert, empty, contains_key, get-empty}
use Rattle.judy_model.specs.Keys.{word_order}
use Rattle.judy_model.specs.Arrays.{ArrayOf, empty_array}
use Rattle.judy_word.specs.Writes.{with_value}
use Rattle.judy_sl.specs.Children.{Tail, Level}
use Rattle.judy_sl.specs.declared.arena.Arena.{Arena}
use Rattle.judy_sl.specs.declared.arena.Place.{Place}
use Rattle.judy_sl.specs.declared.branches.Twig.{Twig}
use Rattle.judy_sl.specs.declared.branches.Branch.{Branch}
use Rattle.judy_sl.specs.Pieces.{pieces, piece_of, IsText, IsInner, SpellKey, ArePieces, AreInner}
use Rattle.judy_sl.specs.World.{World, gone, tail, level}
use Rattle.judy_sl.specs.WorldInvariants.{IsLed}
use Rattle.judy_sl.specs.Arenas.{world_of, node_of, child_at, IsArena}
use Rattle.judy_sl.specs.Ways.{left_of}
use Rattle.judy_sl.specs.Grown.{IsPut, IsHung, HasTwig, IsTwigText, IsSound, AreHung, IsGraft}
use Rattle.judy_sl.specs.Branches.{IsTwig, IsSprout, IsBuilt, AreSingle, single, entry_of}
use Rattle.judy_sl.proofs.lemmas.pieces.PieceLemmas.{piece-IsFinal, piece-IsInner, text-drop, pieces_are, length-pieces}
use Rattle.judy_sl.proofs.lemmas.pieces.Ways.{pieces_short, pieces_long}
use Rattle.judy_sl.proofs.lemmas.seats.Seats.{set_node, set_behind, cond-same, cond-other}
use Rattle.judy_sl.proofs.lemmas.pieces.OnWay.{pieces-head, pieces-some}
use Rattle.judy_sl.proofs.lemmas.pieces.Branching.{keys-more}
use Rattle.judy_sl.proofs.lemmas.inserts.Written.{behind-leads}
use Rattle.judy_sl.proofs.lemmas.seats.Led.{KeepsEntries, keeps-none, led-moves, keeps-set}
use Rattle.judy_sl.proofs.lemmas.seats.Linked.{get-insert_here, get-insert_off}
use Rattle.judy_sl.proofs.lemmas.inserts.Tailed.{world-put}
use Rattle.judy_sl.proofs.lemmas.inserts.Grafts.{Grafts, grafts-start, put-grafts, put-same, put-here, behind_put, IsSide, side-stays, IsBranch, fork-branch, up-grafts, up-branch}
use Rattle.judy_sl.proofs.lemmas.counts.Growing.{grows-then}
use Rattle.judy_sl.proofs.lemmas.counts.GraftedLevels.{LevelMade, made-was, grows-hung}
use Rattle.judy_model.specs.declared.keys.TheConstants.{LONGEST_STRING}

-- ---- a twig that is hung up

pub record Hung (before now after : Arena) (was : IsArena now) (words linked : ArrayOf word_order) (place : List ℕ) (rest : List ℕ) (value : ℕ) : Type 0 where
  pub grafts : Grafts before after
  pub entry : ℕ
  pub side : IsSide (world_of after) grafts.is.behind place (pieces rest) value entry
  pub get_here : get linked.map (piece_of rest) ≡ Some entry
  pub get_off : (p : ℕ) → p ≢ piece_of rest → get linked.map p ≡ get words.map p
  pub stays : (seat : ℕ) → world_of now seat ≢ gone → (world_of after seat ≡ world_of now seat) × (grafts.is.behind seat ≡ was.behind seat)
  pub led : (at : ℕ) → world_of after (suc at) ≢ gone → (world_of now (suc at) ≢ gone) ⊎ (IsInner (piece_of rest) × (get linked.map (piece_of rest) ≡ Some at))

hung-none : (before now : Arena) (grafts : Grafts before now) (words linked : ArrayOf word_order) (place rest : List ℕ) (value : ℕ) → linked ≡ words → length rest < 8 →
    IsText rest → SpellKey (place ++ pieces rest) → get words.map (piece_of rest) ≡ Some value → Hung before now now grafts.is words linked place rest value
hung-none before now grafts words linked place rest value same short text spells entry = record {
  grafts = grafts;
  entry = value;
  side = subst (λ ps. IsSide (world_of now) grafts.is.behind place ps value value) (sym (pieces_short rest short))
      (piece-IsFinal rest text short, refl, subst (λ ps. SpellKey (place ++ ps)) (pieces_short rest short) spells);
  get_here = ap (λ (l : ArrayOf word_order). get l.map (piece_of rest)) same ∙ entry;
  get_off = λ p apart. ap (λ (l : ArrayOf word_order). get l.map p) same;
  stays = λ seat some. (refl, refl);
  led = λ at there. inl there;
}

long-side : (world : World) (behind : ℕ → List ℕ) (place : List ℕ) (piece : ℕ) (held : List ℕ) (value entry : ℕ) → held ≢ [] → IsInner piece →
    world (suc entry) ≡ tail held value → behind (suc entry) ≡ place ++ piece ∷ [] → IsSide world behind place (piece ∷ held) value entry
long-side world behind place piece [] value entry some inner there leads = absurd (some refl)
long-side world behind place piece (next ∷ held) value entry some inner there leads = (inner, there, leads)

hung-some : (before now after : Arena) (grafts : Grafts before now) (words linked : ArrayOf word_order) (place rest : List ℕ) (value : ℕ) (twig : Twig) (at : ℕ) →
    IsPut now after (Tail ((twig.rest.now, twig.value))) at → linked ≡ with_value words twig.piece at → IsTwig rest value (Some twig) → IsText rest →
    SpellKey (place ++ pieces rest) → Hung before now after grafts.is words linked place rest value
hung-some before now after grafts words linked place rest value twig at put_is linked_is is text spells =
    let held = pieces (drop 8 rest) in
    let front = place ++ piece_of rest ∷ [] in
    let twig_text : IsText twig.rest.now = subst IsText (sym is.2) (text-drop 8 rest text) in
    let node : node_of (Tail ((twig.rest.now, twig.value))) ≡ tail held value = (λ i. tail (pieces (is.2 i)) (is.3 i)) in
    let fits : SpellKey (front ++ pieces twig.rest.now) = subst SpellKey (ap (λ ps. place ++ ps) (pieces_long rest is.0) ∙ sym (append_assoc place (piece_of rest ∷ []) held) ∙
    ap (λ b. front ++ pieces b) (sym is.2)) spells in
    let here = put-here now after grafts.is (Tail ((twig.rest.now, twig.value))) at put_is front twig_text fits tt in
    record {
      grafts = put-grafts now after grafts.is (Tail ((twig.rest.now, twig.value))) at put_is front twig_text fits tt before grafts.was grafts.same;
      entry = at;
      side =
          subst (λ ps. IsSide (world_of after) (behind_put now after grafts.is (Tail ((twig.rest.now, twig.value))) at put_is front twig_text) place ps value at)
          (sym (pieces_long rest is.0)) (long-side (world_of after) (behind_put now after grafts.is (Tail ((twig.rest.now, twig.value))) at put_is front twig_text) place
          (piece_of rest) held value at (pieces-some (drop 8 rest)) (piece-IsInner rest text is.0) (here.0 ∙ node) here.1);
      get_here = ap (λ (l : ArrayOf word_order). get l.map (piece_of rest)) linked_is ∙ ap (λ p. get (insert words.map p at) (piece_of rest)) is.1 ∙ get-insert_here words.map (piece_of rest) at;
      get_off = λ p apart. ap (λ (l : ArrayOf word_order). get l.map p) linked_is ∙ get-insert_off words.map twig.piece at p (λ e. apart (e ∙ is.1));
      stays = put-same now after grafts.is (Tail ((twig.rest.now, twig.value))) at put_is front twig_text fits tt;
      led = λ k there. elim (cases_eq k at) [
        | inl e ↦ inr (
          piece-IsInner rest text is.0,
          ap (λ (l : ArrayOf word_order). get l.map (piece_of rest)) linked_is ∙ ap (λ p. get (insert words.map p at) (piece_of rest)) is.1 ∙
              get-insert_here words.map (piece_of rest) at ∙ ap (λ n. Some n) (sym e),
        )
        | inr apart ↦ inl (λ none. there (ap node_of (put_is.elsewhere k apart) ∙ none))
      ];
    }

pub hung : (before now after : Arena) (grafts : Grafts before now) (words linked : ArrayOf word_order) (place rest : List ℕ) (value : ℕ) (twig : Option Twig) (at : Option ℕ) →
    IsHung now after words linked twig at → IsTwig rest value twig → IsText rest → SpellKey (place ++ pieces rest) → get words.map (piece_of rest) ≡ Some (entry_of twig value) →
    Hung before now after grafts.is words linked place rest value
hung before now after grafts words linked place rest value None None is twig text spells entry =
    subst (λ (a : Arena). Hung before now a grafts.is words linked place rest value) (sym is.0) (hung-none before now grafts words linked place rest value is.1 twig text spells entry)
hung before now after grafts words linked place rest value None (Some at) is twig text spells entry = absurd is
hung before now after grafts words linked place rest value (Some twig) None is has text spells entry = absurd is
hung before now after grafts words linked place rest value (Some twig) (Some at) is has text spells entry =
    hung-some before now after grafts words linked place rest value twig at is.0 is.1 has text spells

-- A place behind which a key's pieces go on isn't too long.
pub short-place : (place : List ℕ) (piece : ℕ) (rest : List ℕ) → SpellKey (place ++ piece ∷ rest) → 8 * length place ≤ LONGEST_STRING
short-place place piece rest spells =
    let l = length-pieces spells.key in
    let e = ap (λ (ps : List ℕ). length ps) spells.spells in
    let a = length-append place (piece ∷ rest) in
    let w = spells.is_key.is_bytes_key.within_limit in
    omega (arith, l, e, a, w)

-- ---- on the way up

-- What leads to a child on the way up: what led to it before, a level that was put since, or an entry of the level
-- that is put next.
abbrev pub IsLedUp : Arena → Arena → FinMap word_order ℕ → ℕ → Type 0
IsLedUp before now map at = (world_of before (suc at) ≢ gone) ⊎ IsLed (world_of now) at ⊎ ((piece : ℕ) × IsInner piece × (get map piece ≡ Some at))

pub record IsGrafting (before now : Arena) (front held new : List ℕ) (value : ℕ) (upper : List (ℕ × ArrayOf word_order)) (words : ArrayOf word_order) : Type 0 where
  pub grafts : Grafts before now
  pub inner : AreInner (keys_of upper)
  pub held_now : List ℕ
  pub new_now : List ℕ
  pub held_parts : held ≡ keys_of upper ++ held_now
  pub new_parts : new ≡ keys_of upper ++ new_now
  pub held_are : ArePieces held_now
  pub new_are : ArePieces new_now
  pub branch : IsBranch (world_of now) grafts.is.behind (front ++ keys_of upper) words.map held_now new_now value
  pub led : (at : ℕ) → world_of now (suc at) ≢ gone → IsLedUp before now words.map at
  pub made : (at : ℕ) → LevelMade before front held new (grafts.is.behind (suc at)) at (child_at now at)

pub singles-front : (upper : List (ℕ × ArrayOf word_order)) (piece : ℕ) (words : ArrayOf word_order) → AreSingle (upper ++ (piece, words) ∷ []) → AreSingle upper × (words ≡ single piece)
singles-front [] piece words are = (tt, are.0)
singles-front (entry ∷ rest) piece words are = let more = singles-front rest piece words are.1 in ((are.0, more.0), more.1)

inner-front : (front : List ℕ) (piece : ℕ) → AreInner (front ++ piece ∷ []) → AreInner front × IsInner piece
inner-front [] piece inner = (tt, inner.0)
inner-front (first ∷ front) piece inner = let more = inner-front front piece inner.1 in ((inner.0, more.0), more.1)

are-more : (piece : ℕ) (ps : List ℕ) → IsInner piece → ArePieces ps → ArePieces (piece ∷ ps)
are-more piece [] inner are = absurd are
are-more piece (next ∷ rest) inner are = (inner, are)

-- A level is put: what was led to still is,
pub put-led : (now later : Arena) (words : ArrayOf word_order) (to : ℕ) → IsPut now later (Level 2 words) to → (at : ℕ) → IsLed (world_of now) at → IsLed (world_of later) at
put-led now later words to put_is at led =
    let keeps : KeepsEntries (world_of now (suc to)) (level words.map) = keeps-none (world_of now (suc to)) (level words.map) (λ m e. let g : gone ≡ level m = sym put_is.was_free ∙ e in cc) in
    subst (λ w. IsLed w at) (sym (world-put now later (Level 2 words) to put_is)) (led-moves (world_of now) (set_node (world_of now) (suc to) (level words.map))
    (keeps-set (world_of now) (suc to) (level words.map) keeps) at led)

-- and what it leads to is.
pub new-led : (now later : Arena) (words : ArrayOf word_order) (to : ℕ) → IsPut now later (Level 2 words) to → (at piece : ℕ) → IsInner piece → get words.map piece ≡ Some at →
    IsLed (world_of later) at
new-led now later words to put_is at piece inner entry = record { seat = suc to; map = words.map; is_level = ap node_of put_is.here; piece = piece; inner = inner; entry = entry }

led-up : (before now later : Arena) (words : ArrayOf word_order) (linked : FinMap word_order ℕ) (to : ℕ) → IsPut now later (Level 2 words) to → (at : ℕ) →
    IsLedUp before now words.map at → IsLedUp before later linked at
led-up before now later words linked to put_is at (inl was) = inl was
led-up before now later words linked to put_is at (inr (inl led)) = inr (inl (put-led now later words to put_is at led))
led-up before now later words linked to put_is at (inr (inr entry)) = inr (inl (new-led now later words to put_is at entry.0 entry.1 entry.2))

pub grafting-up : (before now after : Arena) (front held new : List ℕ) (value : ℕ) (upper rest : List (ℕ × ArrayOf word_order)) (words above linked : ArrayOf word_order) (piece to : ℕ) →
    IsGrafting before now front held new value upper words → upper ≡ rest ++ (piece, above) ∷ [] → above ≡ single piece → IsPut now after (Level 2 words) to →
    linked ≡ with_value above piece to → IsGrafting before after front held new value rest linked
grafting-up before now after front held new value upper rest words above linked piece to is upper_is above_is put_is linked_is =
    let keys : keys_of upper ≡ keys_of rest ++ piece ∷ [] = ap keys_of upper_is ∙ keys-more rest piece above in
    let parts = inner-front (keys_of rest) piece (subst AreInner keys is.inner) in
    let place = front ++ keys_of rest in
    let branch = subst (λ p. IsBranch (world_of now) is.grafts.is.behind p words.map is.held_now is.new_now value)
    (ap (λ ks. front ++ ks) keys ∙ sym (append_assoc front (keys_of rest) (piece ∷ []))) is.branch in
    let here : get linked.map piece ≡ Some to = ap (λ (l : ArrayOf word_order). get l.map piece) linked_is ∙ get-insert_here above.map piece to in
    let off : ((p : ℕ) → p ≢ piece → get linked.map p ≡ None) = (λ p apart. ap (λ (l : ArrayOf word_order). get l.map p) linked_is ∙ get-insert_off above.map piece to p apart ∙
    ap (λ (l : ArrayOf word_order). get l.map p) above_is ∙ get-insert_off empty piece 0 p apart ∙ get-empty word_order p) in
    record {
      grafts = up-grafts now after is.grafts.is words to put_is place piece parts.1 is.held_now is.new_now value branch is.held_are is.new_are before is.grafts refl;
      inner = parts.0;
      held_now = piece ∷ is.held_now;
      new_now = piece ∷ is.new_now;
      held_parts = is.held_parts ∙ ap (λ ks. ks ++ is.held_now) keys ∙ append_assoc (keys_of rest) (piece ∷ []) is.held_now;
      new_parts = is.new_parts ∙ ap (λ ks. ks ++ is.new_now) keys ∙ append_assoc (keys_of rest) (piece ∷ []) is.new_now;
      held_are = are-more piece is.held_now parts.1 is.held_are;
      new_are = are-more piece is.new_now parts.1 is.new_are;
      branch = up-branch now after is.grafts.is words to put_is place piece parts.1 is.held_now is.new_now value branch is.held_are is.new_are linked.map here off;
      led = λ at there. elim (cases_eq at to) [
        | inl e ↦ inr (inr (piece, parts.1, here ∙ ap (λ n. Some n) (sym e)))
        | inr apart ↦ led-up before now after words linked.map to put_is at (is.led at (λ none. there (ap node_of (put_is.elsewhere at apart) ∙ none)))
      ];
      made = λ at. elim (cases_eq at to) [
        | inl e ↦ subst (LevelMade before front held new (set_behind is.grafts.is.behind (suc to) (place ++ piece ∷ []) (suc at)) at) (sym (ap (child_at after) e ∙ put_is.here)) (inr (
          refl,
          record {
            mid = keys_of upper;
            held_more = is.held_now;
            new_more = is.new_now;
            place_is = cond-same is.grafts.is.behind (suc to) (place ++ piece ∷ []) (suc at) (ap (λ n. suc n) e) ∙ append_assoc front (keys_of rest) (piece ∷ []) ∙ ap (λ ks. front ++ ks) (sym keys);
            held_is = is.held_parts;
            new_is = is.new_parts;
          },
        ))
        | inr apart ↦ subst (LevelMade before front held new (set_behind is.grafts.is.behind (suc to) (place ++ piece ∷ []) (suc at)) at) (sym (put_is.elsewhere at apart)) (
            subst (λ p. LevelMade before front held new p at (child_at now at)) (sym (cond-other is.grafts.is.behind (suc to) (place ++ piece ∷ []) (suc at)
            (λ e. apart (let same : at ≡ to = cc in same)))) (is.made at))
      ];
    }

-- ---- the fork

module _ (before now : Arena) (key : List ℕ) (from : Place) (at left : ℕ) (branch linked : Branch) (graft : IsGraft before key from at left branch) (hung_up : AreHung before now branch linked) where
  pub grafting-start : IsGrafting before now graft.clash.leads.front graft.clash.held (pieces (left_of key left)) graft.clash.value linked.upper.items linked.fork
  grafting-start = subst (λ upper. IsGrafting before now graft.clash.leads.front graft.clash.held (pieces (left_of key left)) graft.clash.value upper linked.fork) (sym hung_up.upper) started
    where
      started : IsGrafting before now graft.clash.leads.front graft.clash.held (pieces (left_of key left)) graft.clash.value branch.upper.items linked.fork
      started =
          let built = graft.built in
          let clash = graft.clash in
          let is = graft.is_arena in
          let one = hung_up.middle in
          let level_one = hung_up.words in
          let value = clash.value in
          let keys = keys_of branch.upper.items in
          let place = clash.leads.front ++ keys in
          let behind = behind-leads (world_of before) is.behind is.is_world key (suc at) (pieces (left_of key left)) clash.leads in
          let held_spells : SpellKey (place ++ pieces built.held) =
          subst SpellKey (ap (λ f. f ++ clash.held) behind ∙ ap (λ ps. clash.leads.front ++ ps) (graft.held_is ∙ built.held_parts) ∙
          sym (append_assoc clash.leads.front keys (pieces built.held))) (is.is_world.tails (suc at) clash.held value clash.is_tail) in
          let new_spells : SpellKey (place ++ pieces built.rest) = record {
            key = key;
            is_key = graft.is_key;
            spells = clash.leads.parts ∙ ap (λ ps. clash.leads.front ++ ps) built.rest_parts ∙ sym (append_assoc clash.leads.front keys (pieces built.rest));
          } in
          let a = piece_of built.held in
          let b = piece_of built.rest in
          let fork_b : get branch.fork.map b ≡ Some (entry_of branch.new 0) = ap (λ (l : ArrayOf word_order). get l.map b) built.new.level ∙
          get-insert_here built.middle.map b (entry_of branch.new 0) in
          let fork_off : ((p : ℕ) → p ≢ b → get branch.fork.map p ≡ get built.middle.map p) = (λ p apart. ap (λ (l : ArrayOf word_order). get l.map p) built.new.level ∙
          get-insert_off built.middle.map b (entry_of branch.new 0) p apart) in
          let middle_a : get built.middle.map a ≡ Some (entry_of branch.old value) = ap (λ (l : ArrayOf word_order). get l.map a) built.old.level ∙
          get-insert_here empty a (entry_of branch.old value) in
          let middle_off : ((p : ℕ) → p ≢ a → get built.middle.map p ≡ None) = (λ p apart. ap (λ (l : ArrayOf word_order). get l.map p) built.old.level ∙
          get-insert_off empty a (entry_of branch.old value) p apart ∙ get-empty word_order p) in
          let old = hung before before one (grafts-start before is) branch.fork level_one place built.held value branch.old hung_up.old_at hung_up.old built.old.behind
          built.held_text held_spells (fork_off a built.differ ∙ middle_a) in
          let new = hung before one now old.grafts level_one linked.fork place built.rest 0 branch.new hung_up.new_at hung_up.new built.new.behind built.rest_text new_spells
          (old.get_off b (λ e. built.differ (sym e)) ∙ fork_b) in
          let hs = pieces-head built.held in
          let ns = pieces-head built.rest in
          let old_side = side-stays (world_of one) (world_of now) old.grafts.is.behind new.grafts.is.behind new.stays place (pieces built.held) value old.entry old.side in
          record {
            grafts = new.grafts;
            inner = built.inner;
            held_now = pieces built.held;
            new_now = pieces built.rest;
            held_parts = graft.held_is ∙ built.held_parts;
            new_parts = built.rest_parts;
            held_are = pieces_are built.held built.held_text;
            new_are = pieces_are built.rest built.rest_text;
            branch =
                subst (λ ps. IsBranch (world_of now) new.grafts.is.behind place linked.fork.map ps (pieces built.rest) value) (sym hs.1)
                (subst (λ ps. IsBranch (world_of now) new.grafts.is.behind place linked.fork.map (a ∷ hs.0) ps value) (sym ns.1) (
                fork-branch (world_of now) new.grafts.is.behind place linked.fork.map a b hs.0 ns.0 value old.entry new.entry built.differ
                (subst (λ ps. IsSide (world_of now) new.grafts.is.behind place ps value old.entry) hs.1 old_side)
                (subst (λ ps. IsSide (world_of now) new.grafts.is.behind place ps 0 new.entry) ns.1 new.side)
                (new.get_off a built.differ ∙ old.get_here)
                new.get_here
                (λ p not_a not_b. new.get_off p not_b ∙ old.get_off p not_a ∙ fork_off p not_b ∙ middle_off p not_a)
                (short-place place a hs.0 (subst (λ ps. SpellKey (place ++ ps)) hs.1 held_spells))
                ));
            led = λ to there. elim (new.led to there) [
              | inr by ↦ inr (inr (b, by.0, by.1))
              | inl stood ↦ elim (old.led to stood) [
                | inl was ↦ inl was
                | inr by ↦ inr (inr (a, by.0, new.get_off a built.differ ∙ by.1))
              ]
            ];
            made = λ to. made-was before clash.leads.front clash.held (pieces (left_of key left)) (new.grafts.is.behind (suc to)) to (child_at now to) (
                (grows-then before one now (grows-hung before one branch.fork level_one branch.old hung_up.old_at hung_up.old)
                (grows-hung one now level_one linked.fork branch.new hung_up.new_at hung_up.new)).was to
                );
          }

-- ---- entries that are there

contains-here : (map : FinMap word_order ℕ) (key value : ℕ) → get map key ≡ Some value → IsTrue (contains_key map key)
contains-here map key value e = ap (λ (o : Option ℕ). is_some o) e

contains-insert : (map : FinMap word_order ℕ) (key value other : ℕ) → IsTrue (contains_key map other) → IsTrue (contains_key (insert map key value) other)
contains-insert map key value other there = elim (cases_eq other key) [
  | inl e ↦ contains-here (insert map key value) other value (ap (get (insert map key value)) e ∙ get-insert_here map key value)
  | inr apart ↦ ap (λ (o : Option ℕ). is_some o) (get-insert_off map key value other apart) ∙ there
]

pub single-contains : (piece : ℕ) (words : ArrayOf word_order) → words ≡ single piece → IsTrue (contains_key words.map piece)
single-contains piece words is = contains-here words.map piece 0 (ap (λ (l : ArrayOf word_order). get l.map piece) is ∙ get-insert_here empty piece 0)

twig-with : (words : ArrayOf word_order) (key value : ℕ) (twig : Option Twig) → HasTwig words twig → HasTwig (with_value words key value) twig
twig-with words key value None has = tt
twig-with words key value (Some twig) has = contains-insert words.map key value twig.piece has

pub twig-stays : (before after : Arena) (words linked : ArrayOf word_order) (hung_up twig : Option Twig) (at : Option ℕ) → IsHung before after words linked hung_up at →
    HasTwig words twig → HasTwig linked twig
twig-stays before after words linked None twig None is has = subst (λ (l : ArrayOf word_order). HasTwig l twig) (sym is.1) has
twig-stays before after words linked None twig (Some at) is has = absurd is
twig-stays before after words linked (Some up) twig None is has = absurd is
twig-stays before after words linked (Some up) twig (Some at) is has = subst (λ (l : ArrayOf word_order). HasTwig l twig) (sym is.1) (twig-with words up.piece at twig has)

sprout-twig : (before linked_to : ArrayOf word_order) (rest : List ℕ) (value : ℕ) (twig : Option Twig) → IsSprout before linked_to rest value twig → HasTwig linked_to twig
sprout-twig before linked_to rest value None is = tt
sprout-twig before linked_to rest value (Some twig) is =
    ap (λ p. contains_key linked_to.map p) is.behind.1 ∙ contains-here linked_to.map (piece_of rest) 0
    (ap (λ (l : ArrayOf word_order). get l.map (piece_of rest)) is.level ∙ get-insert_here before.map (piece_of rest) 0)

twig-text : (rest : List ℕ) (value : ℕ) (twig : Option Twig) → IsTwig rest value twig → IsText rest → length rest ≤ LONGEST_STRING → IsTwigText twig
twig-text rest value None is text short = tt
twig-text rest value (Some twig) is text short =
    subst (λ (bytes : List ℕ). IsText bytes × (length bytes ≤ LONGEST_STRING)) (sym is.2) (text-drop 8 rest text, (let l = length-drop 8 rest in omega (arith, l, short)))

pub sound-built : (bytes : List ℕ) (value : ℕ) (key : List ℕ) (branch : Branch) → IsBuilt bytes value key branch → length bytes ≤ LONGEST_STRING → length key ≤ LONGEST_STRING → IsSound branch
sound-built bytes value key branch built bytes_short key_short = record {
  singles = built.singles;
  old = subst (λ (l : ArrayOf word_order). HasTwig l branch.old) (sym built.new.level) (twig-with built.middle (piece_of built.rest) (entry_of branch.new 0) branch.old
      (sprout-twig (empty_array 18446744073709551615) built.middle built.held value branch.old built.old));
  old_text = twig-text built.held value branch.old built.old.behind built.held_text (let l = built.held_short in omega (arith, l, bytes_short));
  new = sprout-twig built.middle branch.fork built.rest 0 branch.new built.new;
  new_text = twig-text built.rest 0 branch.new built.new.behind built.rest_text (let l = built.rest_short in omega (arith, l, key_short));
}

pub no-items : {A : Type 0} (xs : List A) → length xs ≡ 0 → xs ≡ []
no-items [] e = refl
no-items (x ∷ xs) e = absurd (omega arith)
