-- A branch whose levels stand: the entry that led to the tail leads to its top level, and the tail is gone.
use Rattle.std.proofs.Common.{◌≡◌, ◌≢◌, ℕ, zero, suc, ◌-◌, ◌<◌, List, [], ◌∷◌, ◌++◌, length, Some, ◌⊎◌, inl, inr, refl, sym, ap, subst, ◌∙◌, arith}
use Rattle.std.proofs.lemmas.Bool.{cases_eq}
use Rattle.std.proofs.lemmas.List.{append-nil, length-append, length-drop}
use Rattle.std.specs.FinMap.{FinMap, insert}
use Rattle.judy_model.specs.Keys.{word_order}
use Rattle.judy_model.specs.Arrays.{ArrayOf}
use Rattle.judy_sl.specs.Children.{Child, Free, Tail, Level}
use Rattle.judy_sl.specs.declared.arena.Arena.{Arena}
use Rattle.judy_sl.specs.declared.arena.Place.{Place}
use Rattle.judy_sl.specs.declared.branches.Branch.{Branch}
use Rattle.judy_sl.specs.Pieces.{pieces, ArePieces}
use Rattle.judy_sl.specs.World.{World, Node, gone, tail, level}
use Rattle.judy_sl.specs.WorldInvariants.{IsWorld, FitsBehind, IsLed, AllLed}
use Rattle.judy_sl.specs.Arenas.{world_of, node_of, child_at, IsArena, HasText}
use Rattle.judy_sl.specs.Places.{place_with}
use Rattle.judy_sl.specs.Ways.{IsOnWay, seat_of, piece_at, left_of}
use Rattle.judy_sl.specs.Grown.{IsChange, IsPut, IsGraft, IsGrafted}
use Rattle.judy_sl.specs.Shrunk.{IsVacated}
use Rattle.judy_sl.proofs.lemmas.pieces.PieceLemmas.{text_of_key, pieces_are}
use Rattle.judy_sl.proofs.lemmas.pieces.Ways.{look_in}
use Rattle.judy_sl.proofs.lemmas.seats.Seats.{set_node, cond-same, cond-other}
use Rattle.judy_sl.proofs.lemmas.pieces.OnWay.{pieces-some}
use Rattle.judy_sl.proofs.lemmas.inserts.Written.{behind-leads}
use Rattle.judy_sl.proofs.lemmas.seats.Led.{led-moves}
use Rattle.judy_sl.proofs.lemmas.counts.KeptLevels.{IsReached, reached-behind, all-reached}
use Rattle.judy_sl.proofs.lemmas.seats.Linked.{node_with, world-with_place, texts-place}
use Rattle.judy_sl.proofs.lemmas.inserts.Filled.{level-child, level-place}
use Rattle.judy_sl.proofs.lemmas.removals.Orphans.{freed}
use Rattle.judy_sl.proofs.lemmas.removals.Shrinks.{vacated-world}
use Rattle.judy_sl.proofs.lemmas.counts.Growing.{was-place}
use Rattle.judy_sl.proofs.lemmas.inserts.Grafts.{Grafts, put-look, put-here, behind_put, IsBranch, up-fits, up-grafts}
use Rattle.judy_sl.proofs.lemmas.counts.GraftedLevels.{LevelMade, made-then}
use Rattle.judy_sl.proofs.lemmas.inserts.Grafted.{IsLedUp, IsGrafting, put-led, new-led}
use Rattle.judy_sl.proofs.lemmas.counts.GraftedCounts.{StandsBehind, grafted-stays, grafted-counted}
use Rattle.judy_sl.proofs.lemmas.inserts.Replaced.{IsBeside, led_away, replaced, replaced-world, replaced-led, replaced-change}

pub gone-where : (node : Node) → (node ≢ gone → ⊥) → node ≡ gone
gone-where gone none = refl
gone-where (tail held value) none = absurd (none (λ e. cc))
gone-where (level map) none = absurd (none (λ e. cc))

module _ (before now top after : Arena) (key : List ℕ) (from : Place) (at left : ℕ) (branch : Branch) (graft : IsGraft before key from at left branch)
    (words : ArrayOf word_order) (is : IsGrafting before now graft.clash.leads.front graft.clash.held (pieces (left_of key left)) graft.clash.value [] words)
    (to : ℕ) (put_is : IsPut now top (Level 2 words) to) (vacated : IsVacated (place_with top from to) after at) where
  abbrev pub front : List ℕ
  front = graft.clash.leads.front

  abbrev pub held : List ℕ
  held = graft.clash.held

  abbrev pub new : List ℕ
  new = pieces (left_of key left)

  abbrev pub place : List ℕ
  place = graft.clash.leads_from.front

  abbrev pub piece : ℕ
  piece = piece_at from

  -- ---- the top level stands behind the pieces of the tail

  pub was-behind : is.grafts.was.behind (suc at) ≡ front
  was-behind = behind-leads (world_of before) is.grafts.was.behind is.grafts.was.is_world key (suc at) new graft.clash.leads

  was-here : is.grafts.was.behind (seat_of from) ≡ place
  was-here = behind-leads (world_of before) is.grafts.was.behind is.grafts.was.is_world key (seat_of from) (piece ∷ new) graft.clash.leads_from

  pub front-is : front ≡ place ++ piece ∷ []
  front-is =
      sym was-behind
      ∙ ((is.grafts.was.is_world.levels (seat_of from) graft.clash.map graft.clash.is_level).leads piece at graft.clash.entry graft.clash.inner).0
      ∙ ap (λ ps. ps ++ piece ∷ []) was-here

  pub held_are : ArePieces held
  held_are = subst ArePieces (sym is.held_parts) is.held_are

  pub new_are : ArePieces new
  new_are = pieces_are (left_of key left) graft.clash.text

  pub branch-is : IsBranch (world_of now) is.grafts.is.behind (place ++ piece ∷ []) words.map held new graft.clash.value
  branch-is =
      subst (λ p. IsBranch (world_of now) is.grafts.is.behind p words.map held new graft.clash.value) (append-nil front ∙ front-is) (
      subst (λ ps. IsBranch (world_of now) is.grafts.is.behind (front ++ []) words.map held ps graft.clash.value) (sym is.new_parts) (
      subst (λ ps. IsBranch (world_of now) is.grafts.is.behind (front ++ []) words.map ps is.new_now graft.clash.value) (sym is.held_parts) is.branch))

  fits-top : FitsBehind (world_of now) (behind_put now top is.grafts.is (Level 2 words) to put_is (place ++ piece ∷ []) tt) (place ++ piece ∷ []) words.map
  fits-top = up-fits now top is.grafts.is words to put_is place piece graft.clash.inner held new graft.clash.value branch-is held_are new_are

  abbrev pub top_grafts : Grafts before top
  top_grafts = up-grafts now top is.grafts.is words to put_is place piece graft.clash.inner held new graft.clash.value branch-is held_are new_are before is.grafts refl

  abbrev pub behind : ℕ → List ℕ
  behind = top_grafts.is.behind

  pub top-there : (world_of top (suc to) ≡ level words.map) × (behind (suc to) ≡ place ++ piece ∷ [])
  top-there = put-here now top is.grafts.is (Level 2 words) to put_is (place ++ piece ∷ []) tt fits-top branch-is.used

  looks : (ps : List ℕ) → ArePieces ps → look_in (world_of top) (level words.map) ps ≡ look_in (world_of now) (level words.map) ps
  looks [] are = refl
  looks (p ∷ rest) are = put-look now top is.grafts.is (Level 2 words) to put_is (place ++ piece ∷ []) tt fits-top branch-is.used (place ++ piece ∷ []) words.map branch-is.fits p rest are

  -- Each level was there, or stands between.
  pub top-made : (k : ℕ) → LevelMade before front held new (behind (suc k)) k (child_at top k)
  top-made k = elim (cases_eq k to) [
    | inl e ↦ subst (LevelMade before front held new (behind (suc k)) k) (sym (ap (child_at top) e ∙ put_is.here)) (inr (
      refl,
      record {
        mid = [];
        held_more = held;
        new_more = new;
        place_is = ap (λ n. behind (suc n)) e ∙ top-there.1 ∙ sym front-is ∙ sym (append-nil front);
        held_is = refl;
        new_is = refl;
      },
    ))
    | inr apart ↦ subst (LevelMade before front held new (behind (suc k)) k) (sym (put_is.elsewhere k apart)) (
        subst (λ p. LevelMade before front held new p k (child_at now k)) (sym (cond-other is.grafts.is.behind (suc to) (place ++ piece ∷ []) (suc k)
        (λ e. apart (let same : k ≡ to = cc in same)))) (is.made k))
  ]

  further-child : (k : ℕ) (child : Child) (m : FinMap word_order ℕ) → node_of child ≡ level m → LevelMade before front held new (behind (suc k)) k child →
      (world_of before (suc k) ≢ gone) ⊎ (length (is.grafts.was.behind (seat_of from)) < length (behind (suc k)))
  further-child k Free m e made = absurd (cc)
  further-child k (Tail rest) m e made = absurd (cc)
  further-child k (Level told found) m e (inl was) = inl (λ none. let g : level was.0.map ≡ gone = sym (ap node_of was.1) ∙ none in cc)
  further-child k (Level told found) m e (inr made) =
      let one = ap (λ (ps : List ℕ). length ps) (made.1.place_is ∙ ap (λ f. f ++ made.1.mid) front-is) in
      let two = length-append (place ++ piece ∷ []) made.1.mid in
      let three = length-append place (piece ∷ []) in
      let four = ap (λ (ps : List ℕ). length ps) was-here in
      inr (omega (arith, one, two, three, four))

  pub further : (seat : ℕ) (m : FinMap word_order ℕ) → world_of top seat ≡ level m → (world_of before seat ≢ gone) ⊎ (length (is.grafts.was.behind (seat_of from)) < length (behind seat))
  further zero m e = inl (λ none. let g : level before.root.map ≡ gone = none in cc)
  further (suc k) m e = further-child k (child_at top k) m e (top-made k)

  abbrev pub beside : IsBeside (world_of before) (world_of top) is.grafts.was.behind behind (seat_of from) piece at to
  beside = record {
    was = is.grafts.was.is_world;
    is = top_grafts.is.is_world;
    same = top_grafts.same;
    map = graft.clash.map;
    is_level = graft.clash.is_level;
    inner = graft.clash.inner;
    entry = graft.clash.entry;
    held = held;
    value = graft.clash.value;
    is_tail = graft.clash.is_tail;
    words = words.map;
    free = gone-where (world_of before (suc to)) (λ some. some (sym (is.grafts.same (suc to) some).0 ∙ put_is.was_free));
    there = top-there.0;
    place = top-there.1 ∙ sym front-is ∙ sym was-behind;
    further = further;
  }

  -- ---- the seats at the end

  pub top-here : world_of top (seat_of from) ≡ level graft.clash.map
  top-here = (top_grafts.same (seat_of from) (λ none. let g : level graft.clash.map ≡ gone = sym graft.clash.is_level ∙ none in cc)).0 ∙ graft.clash.is_level

  pub after-is : world_of after ≡ replaced (world_of before) (world_of top) is.grafts.was.behind behind (seat_of from) piece at to beside
  after-is =
      vacated-world (place_with top from to) after at vacated
      ∙ ap (λ (w : World). freed w at) (
      world-with_place top from to (level-place top from graft.clash.map top-here)
      ∙ ap (λ node. set_node (world_of top) (seat_of from) (node_with node piece to)) top-here
      )

  pub after-world : IsWorld (world_of after) behind
  after-world = subst (λ w. IsWorld w behind) (sym after-is) (replaced-world (world_of before) (world_of top) is.grafts.was.behind behind (seat_of from) piece at to beside graft.led)

  pub after-all : (Holds : Child → Type 0) → Holds Free → ((k : ℕ) → Holds (child_at (place_with top from to) k)) → (k : ℕ) → Holds (child_at after k)
  after-all Holds free held k = elim (cases_eq k at) [
    | inl e ↦ subst Holds (sym (ap (child_at after) e ∙ vacated.here)) free
    | inr apart ↦ subst Holds (sym (vacated.elsewhere k apart)) (held k)
  ]

  abbrev pub after-arena : IsArena after
  after-arena =
      let there = level-place top from graft.clash.map top-here in
      record {
        behind = behind;
        is_world = after-world;
        texts = after-all HasText tt (texts-place top to from there top_grafts.is.texts);
      }

  was-led : (k : ℕ) → IsLed (world_of before) k → IsLed (world_of top) k
  was-led = led-moves (world_of before) (world_of top) (λ seat m e. (m, (top_grafts.same seat (λ none. let g : gone ≡ level m = sym none ∙ e in cc)).0 ∙ e, λ p k p_inner entry. entry))

  top-led : (k : ℕ) → IsLedUp before now words.map k → IsLed (world_of top) k
  top-led k (inl was) = was-led k (graft.led k was)
  top-led k (inr (inl led)) = put-led now top words to put_is k led
  top-led k (inr (inr entry)) = new-led now top words to put_is k entry.0 entry.1 entry.2

  pub after-led : AllLed (world_of after)
  after-led =
      subst AllLed (sym after-is) (
      replaced-led (world_of before) (world_of top) is.grafts.was.behind behind (seat_of from) piece at to beside graft.led
      (λ k apart there. top-led k (is.led k (λ none. there (ap node_of (put_is.elsewhere k apart) ∙ none))))
      )

  pub after-change : IsChange (world_of before) (world_of after) (pieces key) (Some 0)
  after-change =
      subst (λ w. IsChange (world_of before) w (pieces key) (Some 0)) (sym after-is) (
      replaced-change (world_of before) (world_of top) is.grafts.was.behind behind (seat_of from) piece at to beside graft.led before.root.map refl key new graft.clash.leads_from
      (pieces_are key (text_of_key key graft.is_key)) new_are (λ nil. pieces-some graft.bytes (sym graft.held_is ∙ nil))
      (looks held held_are ∙ branch-is.at_held)
      (looks new new_are ∙ branch-is.at_new)
      (λ p more are ne_held ne_new. looks (p ∷ more) are ∙ branch-is.others p more are ne_held ne_new)
      )

  -- ---- the levels at the end

  after-made : (k : ℕ) → LevelMade before front held new (behind (suc k)) k (child_at after k)
  after-made k = elim (cases_eq k at) [
    | inl e ↦ subst (LevelMade before front held new (behind (suc k)) k) (sym (ap (child_at after) e ∙ vacated.here)) tt
    | inr apart ↦ subst (LevelMade before front held new (behind (suc k)) k) (sym (vacated.elsewhere k apart)) (
        made-then before top front held new (behind (suc k)) k (child_at (place_with top from to) k) (top-made k) (was-place top from to graft.clash.map top-here from top-here k))
  ]

  after-stands : StandsBehind before after is.grafts.was after-arena
  after-stands k told found e =
      let was_level : world_of before (suc k) ≡ level found.map = ap node_of e in
      let stood = top_grafts.same (suc k) (λ none. let g : level found.map ≡ gone = sym was_level ∙ none in cc) in
      let off : suc k ≢ suc at = (λ same. let g : level found.map ≡ tail held graft.clash.value = sym was_level ∙ ap (world_of before) same ∙ graft.clash.is_tail in cc) in
      let away = ap (λ (w : World). w (suc k)) after-is ∙ cond-other (led_away (world_of before) (world_of top) is.grafts.was.behind behind (seat_of from) piece at to beside)
      (suc at) gone (suc k) off in (
        elim (cases_eq (suc k) (seat_of from)) [
          | inl here ↦ level-child (child_at after k) (insert graft.clash.map piece to) (away ∙ cond-same (world_of top) (seat_of from) (level (insert graft.clash.map piece to)) (suc k) here)
          | inr apart ↦ level-child (child_at after k) found.map (away ∙ cond-other (world_of top) (seat_of from) (level (insert graft.clash.map piece to)) (suc k) apart ∙ stood.0 ∙ was_level)
        ],
        stood.1,
      )

  -- ---- and the way of the key

  top-after : world_of after (suc to) ≡ level words.map
  top-after =
      ap (λ (w : World). w (suc to)) after-is
      ∙ cond-other (led_away (world_of before) (world_of top) is.grafts.was.behind behind (seat_of from) piece at to beside) (suc at) gone (suc to)
      (λ e. let g : gone ≡ tail held graft.clash.value = sym beside.free ∙ ap (world_of before) e ∙ graft.clash.is_tail in cc)
      ∙ cond-other (world_of top) (seat_of from) (level (insert graft.clash.map piece to)) (suc to) (λ e. let g : gone ≡ level graft.clash.map = sym beside.free ∙
      ap (world_of before) e ∙ graft.clash.is_level in cc)
      ∙ top-there.0

  top-reached : IsReached (world_of after) (suc to)
  top-reached = all-reached (world_of after) behind after-world after-led to (λ none. let g : level words.map ≡ gone = sym top-after ∙ none in cc)

  -- It goes on from the top level.
  top-on : IsOnWay (world_of after) key (suc to) words.map (left_of key left)
  top-on =
      let long = length-drop (length key - left) key in
      let same : length (left_of key left) ≡ left = omega (arith, long, graft.clash.within) in
      record {
        leads = record {
          front = top-reached.front;
          inner = top-reached.inner;
          way = top-reached.way;
          parts = graft.clash.leads.parts ∙ ap (λ ps. ps ++ new) (front-is ∙ sym top-there.1 ∙ reached-behind (world_of after) behind after-world (suc to) top-reached);
        };
        is_level = top-after;
        text = λ text. graft.clash.text;
        is_left = ap (left_of key) (sym same);
        within = omega (arith, same, graft.clash.within);
      }

  pub grafted : IsGrafted before after key left to
  grafted = record {
    within = graft.clash.within;
    map = words.map;
    on = top-on;
    is_arena = after-arena;
    led = after-led;
    counted = grafted-counted before after key from at left branch graft is.grafts.was after-arena after-led after-change after-stands after-made;
    stays = grafted-stays before after key from at left branch graft is.grafts.was after-arena after-led after-change after-stands after-made;
    change = after-change;
  }
