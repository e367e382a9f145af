-- That an entry leads to each child that is there.
use Rattle.std.proofs.Common.{◌≡◌, ◌≢◌, ℕ, suc, Some, inl, inr, refl, sym, ap, subst, ◌∙◌}
use Rattle.std.proofs.lemmas.Bool.{cases_eq}
use Rattle.std.specs.FinMap.{FinMap, get, insert}
use Rattle.judy_model.specs.Keys.{word_order}
use Rattle.judy_sl.specs.Pieces.{IsInner}
use Rattle.judy_sl.specs.World.{World, Node, gone, level}
use Rattle.judy_sl.specs.WorldInvariants.{IsLed, AllLed}
use Rattle.judy_sl.proofs.lemmas.seats.Seats.{set_node, cond-same, cond-other}
use Rattle.judy_sl.proofs.lemmas.seats.Linked.{get-insert_off}

-- A level stays one, with its entries that lead on.
abbrev pub KeepsEntries : Node → Node → Type 0
KeepsEntries node other = (map : FinMap word_order ℕ) → node ≡ level map → (changed : FinMap word_order ℕ) × (other ≡ level changed) ×
    ((piece at : ℕ) → IsInner piece → get map piece ≡ Some at → get changed piece ≡ Some at)

pub keeps-same : (node other : Node) → other ≡ node → KeepsEntries node other
keeps-same node other same map e = (map, same ∙ e, λ piece at inner entry. entry)

pub keeps-then : (one two three : Node) → KeepsEntries one two → KeepsEntries two three → KeepsEntries one three
keeps-then one two three first second map is =
    let to = first map is in
    let on = second to.0 to.1 in
    (on.0, on.1, λ piece at inner entry. on.2 piece at inner (to.2 piece at inner entry))

pub keeps-none : (node other : Node) → ((map : FinMap word_order ℕ) → node ≡ level map → ⊥) → KeepsEntries node other
keeps-none node other none map e = absurd (none map e)

pub keeps-insert : (map : FinMap word_order ℕ) (piece value : ℕ) → ((at : ℕ) → IsInner piece → get map piece ≡ Some at → ⊥) → KeepsEntries (level map) (level (insert map piece value))
keeps-insert map piece value new m e =
    let same : map ≡ m = cc in (
      insert map piece value,
      refl,
      λ p at inner entry. elim (cases_eq p piece) [
        | inl here ↦ absurd (new at (subst IsInner here inner) (ap (get map) (sym here) ∙ ap (λ (l : FinMap word_order ℕ). get l p) same ∙ entry))
        | inr apart ↦ get-insert_off map piece value p apart ∙ ap (λ (l : FinMap word_order ℕ). get l p) same ∙ entry
      ],
    )

-- What leads on before leads on after.
pub led-moves : (world other : World) → ((seat : ℕ) → KeepsEntries (world seat) (other seat)) → (at : ℕ) → IsLed world at → IsLed other at
led-moves world other keeps at led =
    let kept = keeps led.seat led.map led.is_level in
    record { seat = led.seat; map = kept.0; is_level = kept.1; piece = led.piece; inner = led.inner; entry = kept.2 led.piece at led.inner led.entry }

-- Another node at a seat that has one.
module _ (world : World) (seat : ℕ) (node : Node) (keeps : KeepsEntries (world seat) node) where
  pub keeps-set : (s : ℕ) → KeepsEntries (world s) (set_node world seat node s)
  keeps-set s map e = elim (cases_eq s seat) [
    | inl here ↦
        let kept = keeps map (sym (ap world here) ∙ e) in
        (kept.0, cond-same world seat node s here ∙ kept.1, kept.2)
    | inr off ↦ (map, cond-other world seat node s off ∙ e, λ piece at inner entry. entry)
  ]

  pub led-set : world seat ≢ gone → AllLed world → AllLed (set_node world seat node)
  led-set some all at there =
      led-moves world (set_node world seat node) keeps-set at (all at (λ none. elim (cases_eq (suc at) seat) [
        | inl here ↦ some (sym (ap world here) ∙ none)
        | inr off ↦ there (cond-other world seat node (suc at) off ∙ none)
      ]))

-- A new node where nothing was, to which a new entry leads.
pub led-put : (world : World) (at : ℕ) (new : Node) (seat : ℕ) (map : FinMap word_order ℕ) (piece : ℕ) → world (suc at) ≡ gone → world seat ≡ level map → IsInner piece →
    ((to : ℕ) → get map piece ≡ Some to → ⊥) → get (insert map piece at) piece ≡ Some at → AllLed world → AllLed (set_node (set_node world (suc at) new) seat (level (insert map piece at)))
led-put world at new seat map piece free is_level inner absent here all k there =
    let one = set_node world (suc at) new in
    let two = set_node one seat (level (insert map piece at)) in
    let off : seat ≢ suc at = (λ e. let g : level map ≡ gone = sym is_level ∙ ap world e ∙ free in cc) in
    let one_level : one seat ≡ level map = cond-other world (suc at) new seat off ∙ is_level in
    let second : KeepsEntries (one seat) (level (insert map piece at)) = subst (λ n. KeepsEntries n (level (insert map piece at))) (sym one_level)
    (keeps-insert map piece at (λ to inner_is entry. absent to entry)) in
    let first : KeepsEntries (world (suc at)) new = keeps-none (world (suc at)) new (λ m e. let g : gone ≡ level m = sym free ∙ e in cc) in
    elim (cases_eq k at) [
      | inl e ↦ record {
        seat = seat;
        map = insert map piece at;
        is_level = cond-same one seat (level (insert map piece at)) seat refl;
        piece = piece;
        inner = inner;
        entry = here ∙ ap (λ n. Some n) (sym e);
      }
      | inr apart ↦
          led-moves one two (keeps-set one seat (level (insert map piece at)) second) k (
          led-moves world one (keeps-set world (suc at) new first) k (all k (λ none. elim (cases_eq (suc k) seat) [
            | inl same ↦ (let g : level map ≡ gone = sym is_level ∙ ap world (sym same) ∙ none in cc)
            | inr away ↦ there (cond-other one seat (level (insert map piece at)) (suc k) away ∙ cond-other world (suc at) new (suc k) (λ e. apart (suc-same k at e)) ∙ none)
          ])))
    ]
  where
    suc-same : (x y : ℕ) → suc x ≡ suc y → x ≡ y
    suc-same x y e = cc
