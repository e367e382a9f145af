-- A key that is added with a new tail.
use Rattle.std.proofs.Common.{◌≡◌, ◌≢◌, ℕ, zero, suc, ◌≤◌, ◌-◌, List, [], ◌∷◌, ◌++◌, length, drop, None, Some, inl, inr, refl, sym, ap, subst, ◌∙◌, arith}
use Rattle.std.proofs.lemmas.Bool.{cases_eq}
use Rattle.std.proofs.lemmas.Option.{none-some, same_Some}
use Rattle.std.proofs.lemmas.List.{append_assoc, length-drop}
use Rattle.std.specs.FinMap.{FinMap, get, insert}
use Rattle.judy_model.specs.Keys.{word_order}
use Rattle.judy_model.specs.Arrays.{ArrayOf}
use Rattle.judy_sl.specs.Children.{Child, Tail}
use Rattle.judy_sl.specs.declared.arena.Arena.{Arena}
use Rattle.judy_sl.specs.declared.arena.Place.{Place}
use Rattle.judy_sl.specs.declared.arena.Place.TheVariants.{Below}
use Rattle.judy_sl.specs.Pieces.{pieces, IsText, IsInner, IsFinal, SpellKey, ArePieces}
use Rattle.judy_sl.specs.World.{World, Node, gone, tail, level, lookup, at_entry}
use Rattle.judy_sl.specs.WorldInvariants.{IsWorld, FitsBehind, AllLed}
use Rattle.judy_sl.specs.Arenas.{world_of, node_of, child_at, IsArena, HasText}
use Rattle.judy_sl.specs.Places.{place_with}
use Rattle.judy_sl.specs.Ways.{seat_of, piece_at, LeadsTo, IsFound, IsGap, HasValue, left_of}
use Rattle.judy_sl.specs.Grown.{IsChange, IsPut, IsAdded}
use Rattle.judy_sl.proofs.lemmas.pieces.PieceLemmas.{piece-IsInner, text-drop}
use Rattle.judy_sl.proofs.lemmas.pieces.Ways.{look_in, lookup-in, walk-more, tail-same, tail-other, pieces_long}
use Rattle.judy_sl.proofs.lemmas.seats.Changes.{way-stays}
use Rattle.judy_sl.proofs.lemmas.seats.Seats.{set_node, set_behind, cond-same, cond-other, IsUsed, keeps, fits-put, put}
use Rattle.judy_sl.proofs.lemmas.seats.Entries.{changes_behind}
use Rattle.judy_sl.proofs.lemmas.pieces.OnWay.{pieces-some, inner-more}
use Rattle.judy_sl.proofs.lemmas.inserts.Written.{behind-leads}
use Rattle.judy_sl.proofs.lemmas.seats.Led.{led-put}
use Rattle.judy_sl.proofs.lemmas.seats.Linked.{node_with, texts-place, world-with_place, insert-some, get-insert_here, get-insert_off}
use Rattle.judy_sl.proofs.lemmas.inserts.Filled.{level-place}
use Rattle.judy_sl.specs.Strings.{IsString}

-- A child that was put is at its seat.
pub world-put : (before after : Arena) (child : Child) (at : ℕ) → IsPut before after child at → world_of after ≡ set_node (world_of before) (suc at) (node_of child)
world-put before after child at is = λ i seat. by_seat seat i
  where
    by_seat : (seat : ℕ) → world_of after seat ≡ set_node (world_of before) (suc at) (node_of child) seat
    by_seat zero = ap (λ (words : ArrayOf word_order). level words.map) is.root ∙ sym (cond-other (world_of before) (suc at) (node_of child) 0 (λ e. omega arith))
    by_seat (suc k) = elim (cases_eq k at) [
      | inl e ↦ ap (λ n. node_of (child_at after n)) e ∙ ap node_of is.here ∙ sym (cond-same (world_of before) (suc at) (node_of child) (suc k) (ap (λ n. suc n) e))
      | inr apart ↦ ap node_of (is.elsewhere k apart) ∙ sym (cond-other (world_of before) (suc at) (node_of child) (suc k) (λ e. apart (omega arith)))
    ]

-- A level that stood there before stands there after.
module _ (before after : Arena) (child : Child) (at : ℕ) (put_is : IsPut before after child at) where
  put-off : (seat : ℕ) (map : FinMap word_order ℕ) → world_of before seat ≡ level map → seat ≢ suc at
  put-off seat map is_level e = (let g : level map ≡ gone = sym is_level ∙ ap (world_of before) e ∙ put_is.was_free in cc)

  pub level-put : (seat : ℕ) (map : FinMap word_order ℕ) → world_of before seat ≡ level map → world_of after seat ≡ level map
  level-put seat map is_level =
      ap (λ (w : World). w seat) (world-put before after child at put_is)
      ∙ cond-other (world_of before) (suc at) (node_of child) seat (put-off seat map is_level)
      ∙ is_level

-- An entry that leads to a new tail, over the seats alone.
module _ (world : World) (behind : ℕ → List ℕ) (is : IsWorld world behind) (root : FinMap word_order ℕ) (root_is : world 0 ≡ level root) (key : List ℕ)
    (is_key : IsString key) (seat : ℕ) (piece : ℕ) (held : List ℕ) (some : held ≢ []) (inner : IsInner piece) (leads : LeadsTo world key seat (piece ∷ held))
    (map : FinMap word_order ℕ) (is_level : world seat ≡ level map) (absent : get map piece ≡ None) (at : ℕ) (free : world (suc at) ≡ gone) where
  abbrev new : Node
  new = tail held 0

  abbrev changed : FinMap word_order ℕ
  changed = insert map piece at

  abbrev tailed : World
  tailed = set_node world (suc at) new

  abbrev pub tailed_after : World
  tailed_after = set_node tailed seat (level changed)

  abbrev place : List ℕ
  place = behind seat ++ piece ∷ []

  abbrev pub behind_after : ℕ → List ℕ
  behind_after = set_behind behind (suc at) place

  seat-other : seat ≢ suc at
  seat-other e = (let g : level map ≡ gone = sym is_level ∙ ap world e ∙ free in cc)

  behind-front : behind seat ≡ leads.front
  behind-front = behind-leads world behind is key seat (piece ∷ held) leads

  behind-new : behind_after (suc at) ≡ place
  behind-new = cond-same behind (suc at) place (suc at) refl

  behind-seat : behind_after seat ≡ behind seat
  behind-seat = cond-other behind (suc at) place seat seat-other

  spells : SpellKey (behind_after (suc at) ++ held)
  spells = record { key = key; is_key = is_key; spells = leads.parts ∙ sym (ap (λ p. p ++ held) behind-new ∙ append_assoc (behind seat) (piece ∷ []) held ∙ ap (λ p. p ++ piece ∷ held) behind-front) }

  tailed-world : IsWorld tailed behind_after
  tailed-world = keeps world behind_after (put world behind is at free place) (suc at) new spells tt

  new-there : tailed (suc at) ≡ new
  new-there = cond-same world (suc at) new (suc at) refl

  old-fits : FitsBehind tailed behind_after (behind seat) map
  old-fits = fits-put world behind is at free place new (λ e. cc) (behind seat) map (is.levels seat map is_level)

  changed-fits : FitsBehind tailed behind_after (behind_after seat) changed
  changed-fits = subst (λ p. FitsBehind tailed behind_after p changed) (sym behind-seat) (record {
    leads = λ p found entry p_inner. elim (cases_eq p piece) [
      | inl e ↦
          let here : at ≡ found = same_Some at found (sym (ap (get changed) e ∙ get-insert_here map piece at) ∙ entry) in
          subst (λ f. (behind_after (suc f) ≡ behind seat ++ p ∷ []) × (tailed (suc f) ≢ gone)) here
          (behind-new ∙ ap (λ q. behind seat ++ q ∷ []) (sym e), (λ none. let g : new ≡ gone = sym new-there ∙ none in cc))
      | inr apart ↦ old-fits.leads p found (sym (get-insert_off map piece at p apart) ∙ entry) p_inner
    ];
    ends = λ p value entry final. elim (cases_eq p piece) [
      | inl e ↦ absurd (inner (subst IsFinal e final))
      | inr apart ↦ old-fits.ends p value (sym (get-insert_off map piece at p apart) ∙ entry) final
    ];
    short = old-fits.short;
  })

  is-used : (s : ℕ) → IsUsed s (level changed)
  is-used zero = tt
  is-used (suc n) = insert-some map piece at

  pub after-world : IsWorld tailed_after behind_after
  after-world = keeps tailed behind_after tailed-world seat (level changed) changed-fits (is-used seat)

  after-seat : tailed_after seat ≡ level changed
  after-seat = cond-same tailed seat (level changed) seat refl

  after-new : tailed_after (suc at) ≡ new
  after-new = cond-other tailed seat (level changed) (suc at) (λ e. seat-other (sym e)) ∙ new-there

  apart-after : (s : ℕ) → world s ≢ gone → behind s ≢ leads.front → tailed_after s ≡ world s
  apart-after s there off =
      cond-other tailed seat (level changed) s (λ e. off (ap behind e ∙ behind-front))
      ∙ cond-other world (suc at) new s (λ e. there (ap world e ∙ free))

  at-new : (rest : List ℕ) → rest ≢ [] → look_in tailed_after (level changed) (piece ∷ rest) ≡ look_in tailed_after new rest
  at-new [] nil = absurd (nil refl)
  at-new (next ∷ rest) nil =
      ap (λ o. at_entry o (next ∷ rest) (λ a. lookup tailed_after (suc a) (next ∷ rest))) (get-insert_here map piece at)
      ∙ lookup-in tailed_after (suc at) (next ∷ rest)
      ∙ ap (λ n. look_in tailed_after n (next ∷ rest)) after-new

  others : (rest : List ℕ) → ArePieces (piece ∷ rest) → rest ≢ held → look_in tailed_after (level changed) (piece ∷ rest) ≡ look_in world (level map) (piece ∷ rest)
  others [] are ne = absurd (inner are)
  others (next ∷ rest) are ne =
      at-new (next ∷ rest) (λ e. cc)
      ∙ tail-other tailed_after held (next ∷ rest) 0 (λ e. ne (sym e))
      ∙ sym (ap (λ o. at_entry o (next ∷ rest) (λ a. lookup world (suc a) (next ∷ rest))) absent)

  pub tail-change : IsChange world tailed_after (leads.front ++ piece ∷ held) (Some 0)
  tail-change =
      changes_behind world tailed_after behind is root root_is leads.front leads.inner seat leads.way apart-after behind-front map changed is_level after-seat piece
      (λ p off. get-insert_off map piece at p off) held (Some 0) some (at-new held some ∙ tail-same tailed_after held 0 some) others

  pub tail-found : IsFound tailed_after key (Below at 0)
  tail-found = record {
    rest = held;
    leads = record {
      front = leads.front ++ piece ∷ [];
      inner = inner-more leads.front piece leads.inner inner;
      way =
          walk-more tailed_after 0 leads.front seat changed piece at (way-stays world tailed_after behind is root root_is leads.front leads.inner seat leads.way apart-after) after-seat
          (get-insert_here map piece at);
      parts = leads.parts ∙ sym (append_assoc leads.front (piece ∷ []) held);
    };
    value = 0;
    has = subst (λ n. HasValue n 0 held 0) (sym after-new) (refl, some, refl);
  }

-- The same over arenas: the tail is put in, and then the entry.
module _ (arena : Arena) (is : IsArena arena) (key : List ℕ) (is_key : IsString key) (place : Place) (left : ℕ) (gap : IsGap (world_of arena) key place left)
    (long : 8 ≤ left) (placed : Arena) (at : ℕ) (rest : List ℕ × ℕ) (put_is : IsPut arena placed (Tail rest) at) (bytes : rest.0 ≡ drop 8 (left_of key left)) (zero_is : rest.1 ≡ 0) where
  abbrev rest_of : List ℕ
  rest_of = left_of key left

  abbrev held_of : List ℕ
  held_of = pieces (drop 8 rest_of)

  long-rest : 8 ≤ length rest_of
  long-rest = let k = length-drop (length key - left) key in omega (arith, k, gap.within)

  leads-is : LeadsTo (world_of arena) key (seat_of place) (piece_at place ∷ held_of)
  leads-is = subst (LeadsTo (world_of arena) key (seat_of place)) (pieces_long rest_of long-rest ∙ ap (λ p. p ∷ held_of) (sym gap.next)) gap.leads

  inner-is : IsInner (piece_at place)
  inner-is = subst IsInner (sym gap.next) (piece-IsInner rest_of gap.text long-rest)

  placed-world : world_of placed ≡ set_node (world_of arena) (suc at) (tail held_of 0)
  placed-world =
      world-put arena placed (Tail rest) at put_is
      ∙ λ i. set_node (world_of arena) (suc at) (tail (pieces (bytes i)) (zero_is i))

  level-there : world_of placed (seat_of place) ≡ level gap.map
  level-there = level-put arena placed (Tail rest) at put_is (seat_of place) gap.map gap.is_level

  after-is : world_of (place_with placed place at) ≡ set_node (set_node (world_of arena) (suc at) (tail held_of 0)) (seat_of place) (level (insert gap.map (piece_at place) at))
  after-is =
      world-with_place placed place at (level-place placed place gap.map level-there)
      ∙ ap (λ n. set_node (world_of placed) (seat_of place) (node_with n (piece_at place) at)) level-there
      ∙ ap (λ (w : World). set_node w (seat_of place) (level (insert gap.map (piece_at place) at))) placed-world

  texts-placed : IsText rest.0 → (k : ℕ) → HasText (child_at placed k)
  texts-placed text k = elim (cases_eq k at) [
    | inl e ↦ subst HasText (sym (ap (child_at placed) e ∙ put_is.here)) text
    | inr apart ↦ subst HasText (sym (put_is.elsewhere k apart)) (is.texts k)
  ]

  pub fills-tail : IsText rest.0 → IsAdded arena (place_with placed place at) key (Below at 0)
  fills-tail text =
      let there = level-place placed place gap.map level-there in
      let world = world_of arena in
      record {
        is_arena = record {
          behind =
              behind_after world is.behind is.is_world arena.root.map refl key is_key (seat_of place) (piece_at place) held_of
              (pieces-some (drop 8 rest_of)) inner-is leads-is gap.map gap.is_level gap.absent at put_is.was_free;
          is_world =
              subst (λ w. IsWorld w (behind_after world is.behind is.is_world arena.root.map refl key is_key (seat_of place) (piece_at place) held_of
              (pieces-some (drop 8 rest_of)) inner-is leads-is gap.map gap.is_level gap.absent at put_is.was_free)) (sym after-is)
              (after-world world is.behind is.is_world arena.root.map refl key is_key (seat_of place) (piece_at place) held_of
              (pieces-some (drop 8 rest_of)) inner-is leads-is gap.map gap.is_level gap.absent at put_is.was_free);
          texts = texts-place placed at place there (texts-placed text);
        };
        led =
            λ all. subst AllLed (sym after-is) (led-put world at (tail held_of 0) (seat_of place) gap.map (piece_at place) put_is.was_free gap.is_level inner-is
            (λ to entry. none-some to (sym gap.absent ∙ entry)) (get-insert_here gap.map (piece_at place) at) all);
        change =
            subst (λ w. IsChange world w (pieces key) (Some 0)) (sym after-is) (subst (λ ps. IsChange world
            (tailed_after world is.behind is.is_world arena.root.map refl key is_key (seat_of place) (piece_at place) held_of
            (pieces-some (drop 8 rest_of)) inner-is leads-is gap.map gap.is_level gap.absent at put_is.was_free) ps (Some 0)) (sym leads-is.parts)
            (tail-change world is.behind is.is_world arena.root.map refl key is_key (seat_of place) (piece_at place) held_of
            (pieces-some (drop 8 rest_of)) inner-is leads-is gap.map gap.is_level gap.absent at put_is.was_free));
        found =
            subst (λ w. IsFound w key (Below at 0)) (sym after-is) (tail-found world is.behind is.is_world arena.root.map refl key is_key (seat_of place)
            (piece_at place) held_of (pieces-some (drop 8 rest_of)) inner-is leads-is gap.map gap.is_level gap.absent at put_is.was_free);
      }

-- The whole of it, as the steps of the code come.
pub filled-tail : (before placed after : Arena) (key : List ℕ) (place : Place) (left at : ℕ) (rest : List ℕ × ℕ) → IsArena before → IsString key → IsGap (world_of before) key place left →
    8 ≤ left → IsPut before placed (Tail rest) at → after ≡ place_with placed place at → rest.0 ≡ drop 8 (left_of key left) → rest.1 ≡ 0 → IsAdded before after key (Below at 0)
filled-tail before placed after key place left at rest is is_key gap long put_is after_is bytes value =
    subst (λ a. IsAdded before a key (Below at 0)) (sym after_is)
    (fills-tail before is key is_key place left gap long placed at rest put_is bytes value (subst IsText (sym bytes) (text-drop 8 (left_of key left) gap.text)))
