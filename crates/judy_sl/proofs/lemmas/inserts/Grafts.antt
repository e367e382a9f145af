-- A branch that takes the place of a tail.
use Rattle.std.proofs.Common.{◌≡◌, ◌≢◌, ℕ, suc, ◌*◌, ◌≤◌, List, [], ◌∷◌, ◌++◌, length, None, Some, inl, inr, refl, sym, ap, subst, ◌∙◌, arith}
use Rattle.std.proofs.lemmas.Bool.{cases_eq}
use Rattle.std.proofs.lemmas.Option.{none-some, same_Some}
use Rattle.std.proofs.lemmas.List.{length-append}
use Rattle.std.specs.FinMap.{FinMap, get, empty, get-empty}
use Rattle.judy_model.specs.Keys.{word_order}
use Rattle.judy_model.specs.Arrays.{ArrayOf}
use Rattle.judy_sl.specs.Children.{Child, Level}
use Rattle.judy_sl.specs.declared.arena.Arena.{Arena}
use Rattle.judy_sl.specs.Pieces.{IsInner, IsFinal, SpellKey, ArePieces}
use Rattle.judy_sl.specs.World.{World, gone, tail, level, lookup, at_entry}
use Rattle.judy_sl.specs.WorldInvariants.{IsWorld, FitsBehind}
use Rattle.judy_sl.specs.Arenas.{world_of, node_of, child_at, IsArena, HasText}
use Rattle.judy_sl.specs.Grown.{IsPut}
use Rattle.judy_sl.proofs.lemmas.pieces.Ways.{look_in, tail-same, tail-other}
use Rattle.judy_sl.proofs.lemmas.seats.Frames.{frame-below}
use Rattle.judy_sl.proofs.lemmas.seats.Seats.{set_behind, cond-same, cond-other, NodeFits, IsUsed, keeps, put}
use Rattle.judy_sl.proofs.lemmas.inserts.Tailed.{world-put}
use Rattle.judy_model.specs.declared.keys.TheConstants.{LONGEST_STRING}

-- An arena, and another in which everything of the first still stands.
pub record Grafts (before now : Arena) : Type 0 where
  pub was : IsArena before
  pub is : IsArena now
  pub same : (seat : ℕ) → world_of before seat ≢ gone → (world_of now seat ≡ world_of before seat) × (is.behind seat ≡ was.behind seat)

pub grafts-start : (before : Arena) → IsArena before → Grafts before before
grafts-start before is = record { was = is; is = is; same = λ seat some. (refl, refl) }

-- A child that was put where nothing was.
module _ (now after : Arena) (is : IsArena now) (child : Child) (to : ℕ) (put_is : IsPut now after child to) (place : List ℕ) (text : HasText child) where
  abbrev pub behind_put : ℕ → List ℕ
  behind_put = set_behind is.behind (suc to) place

  -- What it fits: behind the same pieces among the seats before.
  module _ (fits : NodeFits (world_of now) behind_put place (node_of child)) (used : IsUsed (suc to) (node_of child)) where
    abbrev pub put-arena : IsArena after
    put-arena = record {
      behind = behind_put;
      is_world = subst (λ w. IsWorld w behind_put) (sym (world-put now after child to put_is)) (
          keeps (world_of now) behind_put (put (world_of now) is.behind is.is_world to put_is.was_free place) (suc to) (node_of child)
          (subst (λ p. NodeFits (world_of now) behind_put p (node_of child)) (sym (cond-same is.behind (suc to) place (suc to) refl)) fits) used
          );
      texts = λ k. elim (cases_eq k to) [
        | inl e ↦ subst HasText (sym (ap (child_at after) e ∙ put_is.here)) text
        | inr apart ↦ subst HasText (sym (put_is.elsewhere k apart)) (is.texts k)
      ];
    }

    -- What stood stands.
    pub put-same : (seat : ℕ) → world_of now seat ≢ gone → (world_of after seat ≡ world_of now seat) × (behind_put seat ≡ is.behind seat)
    put-same seat some =
        let off : seat ≢ suc to = (λ e. some (ap (world_of now) e ∙ put_is.was_free)) in
        (ap (λ (w : World). w seat) (world-put now after child to put_is) ∙ cond-other (world_of now) (suc to) (node_of child) seat off, cond-other is.behind (suc to) place seat off)

    pub put-here : (world_of after (suc to) ≡ node_of child) × (behind_put (suc to) ≡ place)
    put-here = (ap node_of put_is.here, cond-same is.behind (suc to) place (suc to) refl)

    -- A level that fits finds the same.
    pub put-look : (front : List ℕ) (map : FinMap word_order ℕ) → FitsBehind (world_of now) is.behind front map → (piece : ℕ) (rest : List ℕ) → ArePieces (piece ∷ rest) →
        look_in (world_of after) (level map) (piece ∷ rest) ≡ look_in (world_of now) (level map) (piece ∷ rest)
    put-look front map has piece rest are =
        frame-below (world_of now) (world_of after) is.behind is.is_world (λ p. ⊥) (λ seat some off. (put-same seat some).0) front map has piece rest are (λ some more e hit. hit)

    abbrev pub put-grafts : (before : Arena) (was : IsArena before) → ((seat : ℕ) → world_of before seat ≢ gone →
        (world_of now seat ≡ world_of before seat) × (is.behind seat ≡ was.behind seat)) → Grafts before after
    put-grafts before was same = record {
      was = was;
      is = put-arena;
      same = λ seat some.
          let one = same seat some in
          let two = put-same seat (λ none. some (sym one.0 ∙ none)) in
          (two.0 ∙ one.0, two.1 ∙ one.1);
    }

-- ---- one side of a fork

-- An entry leads to the rest of a key, by its pieces, with the key's value.
abbrev pub IsSide : World → (ℕ → List ℕ) → List ℕ → List ℕ → ℕ → ℕ → Type 0
IsSide world behind place [] value entry = ⊥
IsSide world behind place (piece ∷ []) value entry = IsFinal piece × (entry ≡ value) × SpellKey (place ++ piece ∷ [])
IsSide world behind place (piece ∷ next ∷ rest) value entry = IsInner piece × (world (suc entry) ≡ tail (next ∷ rest) value) × (behind (suc entry) ≡ place ++ piece ∷ [])

pub side-stays : (world other : World) (behind beyond : ℕ → List ℕ) → ((seat : ℕ) → world seat ≢ gone → (other seat ≡ world seat) × (beyond seat ≡ behind seat)) →
    (place ps : List ℕ) (value entry : ℕ) → IsSide world behind place ps value entry → IsSide other beyond place ps value entry
side-stays world other behind beyond same place [] value entry is = is
side-stays world other behind beyond same place (piece ∷ []) value entry is = is
side-stays world other behind beyond same place (piece ∷ next ∷ rest) value entry is =
    let there = same (suc entry) (λ none. let g : tail (next ∷ rest) value ≡ gone = sym is.1 ∙ none in cc) in
    (is.0, there.0 ∙ is.1, there.1 ∙ is.2)

-- What a level with an entry to the rest of a key finds.
side-finds : (world : World) (behind : ℕ → List ℕ) (place : List ℕ) (map : FinMap word_order ℕ) (piece : ℕ) (ps : List ℕ) (value entry : ℕ) →
    IsSide world behind place (piece ∷ ps) value entry → get map piece ≡ Some entry → look_in world (level map) (piece ∷ ps) ≡ Some value
side-finds world behind place map piece [] value entry is e = ap (λ o. at_entry o [] (λ at. lookup world (suc at) [])) e ∙ ap (λ n. Some n) is.1
side-finds world behind place map piece (next ∷ rest) value entry is e =
    ap (λ o. at_entry o (next ∷ rest) (λ at. lookup world (suc at) (next ∷ rest))) e
    ∙ ap (λ n. look_in world n (next ∷ rest)) is.1
    ∙ tail-same world (next ∷ rest) value (λ nil. cc)

side-others : (world : World) (behind : ℕ → List ℕ) (place : List ℕ) (map : FinMap word_order ℕ) (piece : ℕ) (ps : List ℕ) (value entry : ℕ) →
    IsSide world behind place (piece ∷ ps) value entry → get map piece ≡ Some entry → (other : List ℕ) → ArePieces (piece ∷ other) → other ≢ ps → look_in world (level map) (piece ∷ other) ≡ None
side-others world behind place map piece [] value entry is e [] are ne = absurd (ne refl)
side-others world behind place map piece [] value entry is e (p ∷ other) are ne = absurd (are.0 is.0)
side-others world behind place map piece (next ∷ rest) value entry is e [] are ne = absurd (is.0 are)
side-others world behind place map piece (next ∷ rest) value entry is e (p ∷ other) are ne =
    ap (λ o. at_entry o (p ∷ other) (λ at. lookup world (suc at) (p ∷ other))) e
    ∙ ap (λ n. look_in world n (p ∷ other)) is.1
    ∙ tail-other world (next ∷ rest) (p ∷ other) value (λ same. ne (sym same))

side-leads : (world : World) (behind : ℕ → List ℕ) (place : List ℕ) (piece : ℕ) (ps : List ℕ) (value entry : ℕ) → IsSide world behind place (piece ∷ ps) value entry →
    IsInner piece → (behind (suc entry) ≡ place ++ piece ∷ []) × (world (suc entry) ≢ gone)
side-leads world behind place piece [] value entry is inner = absurd (inner is.0)
side-leads world behind place piece (next ∷ rest) value entry is inner = (is.2, (λ none. let g : tail (next ∷ rest) value ≡ gone = sym is.1 ∙ none in cc))

side-ends : (world : World) (behind : ℕ → List ℕ) (place : List ℕ) (piece : ℕ) (ps : List ℕ) (value entry : ℕ) → IsSide world behind place (piece ∷ ps) value entry →
    IsFinal piece → SpellKey (place ++ piece ∷ [])
side-ends world behind place piece [] value entry is final = is.2
side-ends world behind place piece (next ∷ rest) value entry is final = absurd (is.0 final)

-- ---- a level behind which two keys stand

pub record IsBranch (world : World) (behind : ℕ → List ℕ) (place : List ℕ) (map : FinMap word_order ℕ) (held new : List ℕ) (value : ℕ) : Type 0 where
  pub fits : FitsBehind world behind place map
  pub used : map ≢ empty
  pub at_held : look_in world (level map) held ≡ Some value
  pub at_new : look_in world (level map) new ≡ Some 0
  pub others : (piece : ℕ) (rest : List ℕ) → ArePieces (piece ∷ rest) → piece ∷ rest ≢ held → piece ∷ rest ≢ new → look_in world (level map) (piece ∷ rest) ≡ None

entry-some : (map : FinMap word_order ℕ) (piece entry : ℕ) → get map piece ≡ Some entry → map ≢ empty
entry-some map piece entry there e = none-some entry (sym (get-empty word_order piece) ∙ sym (ap (λ (m : FinMap word_order ℕ). get m piece) e) ∙ there)

-- A fork: two entries, one to each.
module _ (world : World) (behind : ℕ → List ℕ) (place : List ℕ) (map : FinMap word_order ℕ) (one two : ℕ) (held new : List ℕ) (value one_at two_at : ℕ)
    (apart : one ≢ two) (one_is : IsSide world behind place (one ∷ held) value one_at) (two_is : IsSide world behind place (two ∷ new) 0 two_at)
    (one_get : get map one ≡ Some one_at) (two_get : get map two ≡ Some two_at) (others_get : (p : ℕ) → p ≢ one → p ≢ two → get map p ≡ None) (short : 8 * length place ≤ LONGEST_STRING) where
  pub fork-branch : IsBranch world behind place map (one ∷ held) (two ∷ new) value
  fork-branch = record {
    fits = record {
      leads = λ p found entry inner. elim (cases_eq p one) [
        | inl e ↦
            let at : one_at ≡ found = same_Some one_at found (sym (ap (get map) e ∙ one_get) ∙ entry) in
            subst (λ q. (behind (suc found) ≡ place ++ q ∷ []) × (world (suc found) ≢ gone)) (sym e)
            (subst (λ f. (behind (suc f) ≡ place ++ one ∷ []) × (world (suc f) ≢ gone)) at (side-leads world behind place one held value one_at one_is (subst IsInner e inner)))
        | inr off ↦ elim (cases_eq p two) [
          | inl e ↦
              let at : two_at ≡ found = same_Some two_at found (sym (ap (get map) e ∙ two_get) ∙ entry) in
              subst (λ q. (behind (suc found) ≡ place ++ q ∷ []) × (world (suc found) ≢ gone)) (sym e)
              (subst (λ f. (behind (suc f) ≡ place ++ two ∷ []) × (world (suc f) ≢ gone)) at (side-leads world behind place two new 0 two_at two_is (subst IsInner e inner)))
          | inr away ↦ absurd (none-some found (sym (others_get p off away) ∙ entry))
        ]
      ];
      ends = λ p v entry final. elim (cases_eq p one) [
        | inl e ↦ subst (λ q. SpellKey (place ++ q ∷ [])) (sym e) (side-ends world behind place one held value one_at one_is (subst IsFinal e final))
        | inr off ↦ elim (cases_eq p two) [
          | inl e ↦ subst (λ q. SpellKey (place ++ q ∷ [])) (sym e) (side-ends world behind place two new 0 two_at two_is (subst IsFinal e final))
          | inr away ↦ absurd (none-some v (sym (others_get p off away) ∙ entry))
        ]
      ];
      short = short;
    };
    used = entry-some map one one_at one_get;
    at_held = side-finds world behind place map one held value one_at one_is one_get;
    at_new = side-finds world behind place map two new 0 two_at two_is two_get;
    others = λ p rest are ne_held ne_new. elim (cases_eq p one) [
      | inl e ↦
          let are_one : ArePieces (one ∷ rest) = subst (λ q. ArePieces (q ∷ rest)) e are in
          ap (λ q. look_in world (level map) (q ∷ rest)) e ∙ side-others world behind place map one held value one_at one_is one_get rest are_one (λ same. ne_held (λ i. e i ∷ same i))
      | inr off ↦ elim (cases_eq p two) [
        | inl e ↦
            let are_two : ArePieces (two ∷ rest) = subst (λ q. ArePieces (q ∷ rest)) e are in
            ap (λ q. look_in world (level map) (q ∷ rest)) e ∙ side-others world behind place map two new 0 two_at two_is two_get rest are_two (λ same. ne_new (λ i. e i ∷ same i))
        | inr away ↦ ap (λ o. at_entry o rest (λ at. lookup world (suc at) rest)) (others_get p off away)
      ]
    ];
  }

-- ---- one level more above it

module _ (now after : Arena) (is : IsArena now) (words : ArrayOf word_order) (to : ℕ) (put_is : IsPut now after (Level 2 words) to) (place : List ℕ) (piece : ℕ) (inner : IsInner piece)
    (held new : List ℕ) (value : ℕ) (branch : IsBranch (world_of now) is.behind (place ++ piece ∷ []) words.map held new value) (held_are : ArePieces held) (new_are : ArePieces new) where
  abbrev front : List ℕ
  front = place ++ piece ∷ []

  pub up-fits : FitsBehind (world_of now) (behind_put now after is (Level 2 words) to put_is front tt) front words.map
  up-fits = record {
    leads = λ p found entry p_inner.
        let leads = branch.fits.leads p found entry p_inner in
        (cond-other is.behind (suc to) front (suc found) (λ e. leads.1 (ap (world_of now) e ∙ put_is.was_free)) ∙ leads.0, leads.1);
    ends = branch.fits.ends;
    short = branch.fits.short;
  }

  abbrev pub up-grafts : (before : Arena) (grafts : Grafts before now) → grafts.is ≡ is → Grafts before after
  up-grafts before grafts e =
      put-grafts now after is (Level 2 words) to put_is front tt up-fits branch.used before grafts.was
      (subst (λ (a : IsArena now). (seat : ℕ) → world_of before seat ≢ gone → (world_of now seat ≡ world_of before seat) × (a.behind seat ≡ grafts.was.behind seat)) e grafts.same)

  module _ (map : FinMap word_order ℕ) (here : get map piece ≡ Some to) (off : (p : ℕ) → p ≢ piece → get map p ≡ None) where
    seat-here : world_of after (suc to) ≡ level words.map
    seat-here = (put-here now after is (Level 2 words) to put_is front tt up-fits branch.used).0

    behind-here : behind_put now after is (Level 2 words) to put_is front tt (suc to) ≡ front
    behind-here = (put-here now after is (Level 2 words) to put_is front tt up-fits branch.used).1

    through : (next : ℕ) (rest : List ℕ) → ArePieces (next ∷ rest) → look_in (world_of after) (level map) (piece ∷ next ∷ rest) ≡ look_in (world_of now) (level words.map) (next ∷ rest)
    through next rest are =
        ap (λ o. at_entry o (next ∷ rest) (λ at. lookup (world_of after) (suc at) (next ∷ rest))) here
        ∙ ap (λ n. look_in (world_of after) n (next ∷ rest)) seat-here
        ∙ put-look now after is (Level 2 words) to put_is front tt up-fits branch.used front words.map branch.fits next rest are

    through-pieces : (ps : List ℕ) → ArePieces ps → look_in (world_of after) (level map) (piece ∷ ps) ≡ look_in (world_of now) (level words.map) ps
    through-pieces [] are = absurd are
    through-pieces (next ∷ rest) are = through next rest are

    up-others : (p : ℕ) (rest : List ℕ) → ArePieces (p ∷ rest) → p ≡ piece → p ∷ rest ≢ piece ∷ held → p ∷ rest ≢ piece ∷ new → look_in (world_of after) (level map) (p ∷ rest) ≡ None
    up-others p [] are e ne_held ne_new = absurd (inner (subst IsFinal e are))
    up-others p (next ∷ rest) are e ne_held ne_new =
        ap (λ q. look_in (world_of after) (level map) (q ∷ next ∷ rest)) e
        ∙ through next rest are.1
        ∙ branch.others next rest are.1 (λ same. ne_held (λ i. e i ∷ same i)) (λ same. ne_new (λ i. e i ∷ same i))

    pub up-branch : IsBranch (world_of after) (behind_put now after is (Level 2 words) to put_is front tt) place map (piece ∷ held) (piece ∷ new) value
    up-branch = record {
      fits = record {
        leads = λ p found entry p_inner. elim (cases_eq p piece) [
          | inl e ↦
              let at : to ≡ found = same_Some to found (sym (ap (get map) e ∙ here) ∙ entry) in
              subst (λ f. (behind_put now after is (Level 2 words) to put_is front tt (suc f) ≡ place ++ p ∷ []) × (world_of after (suc f) ≢ gone)) at
              (behind-here ∙ ap (λ q. place ++ q ∷ []) (sym e), (λ none. let g : level words.map ≡ gone = sym seat-here ∙ none in cc))
          | inr apart ↦ absurd (none-some found (sym (off p apart) ∙ entry))
        ];
        ends = λ p v entry final. elim (cases_eq p piece) [
          | inl e ↦ absurd (inner (subst IsFinal e final))
          | inr apart ↦ absurd (none-some v (sym (off p apart) ∙ entry))
        ];
        short = (let l = length-append place (piece ∷ []) in let s = branch.fits.short in omega (arith, l, s));
      };
      used = entry-some map piece to here;
      at_held = through-pieces held held_are ∙ branch.at_held;
      at_new = through-pieces new new_are ∙ branch.at_new;
      others = λ p rest are ne_held ne_new. elim (cases_eq p piece) [
        | inl e ↦ up-others p rest are e ne_held ne_new
        | inr apart ↦ ap (λ o. at_entry o rest (λ at. lookup (world_of after) (suc at) rest)) (off p apart)
      ];
    }
