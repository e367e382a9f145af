-- An entry that led to a tail leads to a level behind the same pieces, and the tail is gone.
use Rattle.std.proofs.Common.{◌≡◌, ◌≢◌, ℕ, zero, suc, ◌<◌, List, [], ◌∷◌, ◌++◌, length, None, Some, true, false, ◌⊎◌, inl, inr, refl, sym, ap, subst, ◌∙◌, arith}
use Rattle.std.proofs.lemmas.Bool.{cases_eq}
use Rattle.std.proofs.lemmas.Option.{same_Some}
use Rattle.std.proofs.lemmas.List.{length-append}
use Rattle.std.specs.Ordering.{eq_by_cmp}
use Rattle.std.specs.FinMap.{FinMap, get, insert}
use Rattle.judy_model.specs.Keys.{word_order, byte_order}
use Rattle.judy_sl.specs.Pieces.{pieces, IsInner, IsFinal, ArePieces}
use Rattle.judy_sl.specs.World.{World, gone, tail, level, lookup, at_entry}
use Rattle.judy_sl.specs.WorldInvariants.{IsWorld, FitsBehind, IsLed, AllLed}
use Rattle.judy_sl.specs.Ways.{LeadsTo}
use Rattle.judy_sl.specs.Grown.{IsChange}
use Rattle.judy_sl.specs.Shrunk.{IsUnled}
use Rattle.judy_sl.proofs.lemmas.pieces.Ways.{look_in, tail-same, tail-other, same-eq_by_cmp, eq_by_cmp-same}
use Rattle.judy_sl.proofs.lemmas.seats.Frames.{frame-below}
use Rattle.judy_sl.proofs.lemmas.seats.Seats.{set_node, cond-same, cond-other, IsUsed, keeps}
use Rattle.judy_sl.proofs.lemmas.seats.Entries.{changes_behind}
use Rattle.judy_sl.proofs.lemmas.inserts.Written.{behind-leads}
use Rattle.judy_sl.proofs.lemmas.seats.Linked.{insert-some, get-insert_here, get-insert_off}
use Rattle.judy_sl.proofs.lemmas.seats.Lone.{last-same, led-once}
use Rattle.judy_sl.proofs.lemmas.removals.Orphans.{freed, freed-world, freed-look}

-- A level stands beside, to which no entry leads yet, behind the same pieces as a tail. All that stood in a world still stands, and what is
-- new stands further down than the level that leads to the tail.
pub record IsBeside (world now : World) (was_behind behind : ℕ → List ℕ) (here piece at to : ℕ) : Type 0 where
  pub was : IsWorld world was_behind
  pub is : IsWorld now behind
  pub same : (seat : ℕ) → world seat ≢ gone → (now seat ≡ world seat) × (behind seat ≡ was_behind seat)
  pub map : FinMap word_order ℕ
  pub is_level : world here ≡ level map
  pub inner : IsInner piece
  pub entry : get map piece ≡ Some at
  pub held : List ℕ
  pub value : ℕ
  pub is_tail : world (suc at) ≡ tail held value
  pub words : FinMap word_order ℕ
  pub free : world (suc to) ≡ gone
  pub there : now (suc to) ≡ level words
  pub place : behind (suc to) ≡ was_behind (suc at)
  pub further : (seat : ℕ) (m : FinMap word_order ℕ) → now seat ≡ level m → (world seat ≢ gone) ⊎ (length (was_behind here) < length (behind seat))

decide : (xs ys : List ℕ) → (xs ≡ ys) ⊎ (xs ≢ ys)
decide xs ys = elim (eq_by_cmp byte_order xs ys) as (λ b. eq_by_cmp byte_order xs ys ≡ b → (xs ≡ ys) ⊎ (xs ≢ ys)) [
  | true ↦ λ e. inl (same-eq_by_cmp xs ys e)
  | false ↦ λ e. inr (λ same. let g : true ≡ false = sym (ap (λ zs. eq_by_cmp byte_order xs zs) (sym same) ∙ eq_by_cmp-same xs) ∙ e in cc)
] refl

module _ (world now : World) (was_behind behind : ℕ → List ℕ) (here piece at to : ℕ) (beside : IsBeside world now was_behind behind here piece at to) where
  abbrev changed : FinMap word_order ℕ
  changed = insert beside.map piece to

  abbrev pub led_away : World
  led_away = set_node now here (level changed)

  abbrev pub replaced : World
  replaced = freed led_away at

  -- ---- the seats

  here-some : world here ≢ gone
  here-some none = (let g : level beside.map ≡ gone = sym beside.is_level ∙ none in cc)

  at-some : world (suc at) ≢ gone
  at-some none = (let g : tail beside.held beside.value ≡ gone = sym beside.is_tail ∙ none in cc)

  now-here : now here ≡ level beside.map
  now-here = (beside.same here here-some).0 ∙ beside.is_level

  now-at : now (suc at) ≡ tail beside.held beside.value
  now-at = (beside.same (suc at) at-some).0 ∙ beside.is_tail

  apart : to ≢ at
  apart e = at-some (ap (λ n. world (suc n)) (sym e) ∙ beside.free)

  to-off : suc to ≢ here
  to-off e = here-some (ap world (sym e) ∙ beside.free)

  here-off : here ≢ suc at
  here-off e = (let g : level beside.map ≡ tail beside.held beside.value = sym beside.is_level ∙ ap world e ∙ beside.is_tail in cc)

  suc-off : (k : ℕ) → k ≢ at → suc k ≢ suc at
  suc-off k off e = off (cc)

  behind-here : behind here ≡ was_behind here
  behind-here = (beside.same here here-some).1

  was-at : was_behind (suc at) ≡ was_behind here ++ piece ∷ []
  was-at = ((beside.was.levels here beside.map beside.is_level).leads piece at beside.entry beside.inner).0

  behind-to : behind (suc to) ≡ behind here ++ piece ∷ []
  behind-to = beside.place ∙ was-at ∙ ap (λ ps. ps ++ piece ∷ []) (sym behind-here)

  to-some : now (suc to) ≢ gone
  to-some none = (let g : level beside.words ≡ gone = sym beside.there ∙ none in cc)

  changed-fits : FitsBehind now behind (behind here) changed
  changed-fits =
      let fits = beside.is.levels here beside.map now-here in
      record {
        leads = λ p found entry p_inner. elim (cases_eq p piece) [
          | inl e ↦
              let same : to ≡ found = same_Some to found (sym (ap (get changed) e ∙ get-insert_here beside.map piece to) ∙ entry) in
              subst (λ f. (behind (suc f) ≡ behind here ++ p ∷ []) × (now (suc f) ≢ gone)) same (behind-to ∙ ap (λ q. behind here ++ q ∷ []) (sym e), to-some)
          | inr off ↦ fits.leads p found (sym (get-insert_off beside.map piece to p off) ∙ entry) p_inner
        ];
        ends = λ p value entry final. elim (cases_eq p piece) [
          | inl e ↦ absurd (beside.inner (subst IsFinal e final))
          | inr off ↦ fits.ends p value (sym (get-insert_off beside.map piece to p off) ∙ entry) final
        ];
        short = fits.short;
      }

  is-used : (seat : ℕ) → IsUsed seat (level changed)
  is-used zero = tt
  is-used (suc k) = insert-some beside.map piece to

  away-world : IsWorld led_away behind
  away-world = keeps now behind beside.is here (level changed) changed-fits (is-used here)

  away-here : led_away here ≡ level changed
  away-here = cond-same now here (level changed) here refl

  module _ (all : AllLed world) where
    -- No entry leads to the tail any more.
    unled : IsUnled led_away at
    unled seat m p e m_entry p_inner = elim (cases_eq seat here) [
      | inl same ↦
          let maps : level changed ≡ level m = sym (cond-same now here (level changed) seat same) ∙ e in
          let map_is : changed ≡ m = cc in
          let entry : get changed p ≡ Some at = ap (λ (l : FinMap word_order ℕ). get l p) map_is ∙ m_entry in
          elim (cases_eq p piece) [
            | inl it ↦ apart (same_Some to at (sym (ap (get changed) it ∙ get-insert_here beside.map piece to) ∙ entry))
            | inr off ↦
                let leads = (beside.was.levels here beside.map beside.is_level).leads p at (sym (get-insert_off beside.map piece to p off) ∙ entry) p_inner in
                off (last-same (was_behind here) (was_behind here) p piece (sym leads.0 ∙ was-at)).1
          ]
      | inr off ↦
          let stood : now seat ≡ level m = sym (cond-other now here (level changed) seat off) ∙ e in
          elim (beside.further seat m stood) [
            | inl some ↦ off (led-once world was_behind beside.was all seat here m beside.map p piece at
                (sym (beside.same seat some).0 ∙ stood) m_entry p_inner beside.is_level beside.entry beside.inner)
            | inr deep ↦
                let leads = (beside.is.levels seat m stood).leads p at m_entry p_inner in
                let same = (last-same (behind seat) (was_behind here) p piece (sym leads.0 ∙ (beside.same (suc at) at-some).1 ∙ was-at)).0 in
                let l = ap (λ (ps : List ℕ). length ps) same in
                omega (arith, deep, l)
          ]
    ]

    pub replaced-world : IsWorld replaced behind
    replaced-world = freed-world led_away at unled behind away-world

    -- ---- what leads on

    led-moves : (k : ℕ) → k ≢ at → IsLed now k → IsLed replaced k
    led-moves k off led =
        let seat_off : led.seat ≢ suc at = (λ e. let g : tail beside.held beside.value ≡ level led.map = sym now-at ∙ ap now (sym e) ∙ led.is_level in cc) in
        elim (cases_eq led.seat here) [
          | inl e ↦
              let maps : level beside.map ≡ level led.map = sym now-here ∙ ap now (sym e) ∙ led.is_level in
              let same : beside.map ≡ led.map = cc in
              let entry : get beside.map led.piece ≡ Some k = ap (λ (l : FinMap word_order ℕ). get l led.piece) same ∙ led.entry in
              let other : led.piece ≢ piece = (λ it. off (same_Some k at (sym entry ∙ ap (get beside.map) it ∙ beside.entry))) in
              record {
                seat = here;
                map = changed;
                is_level = cond-other led_away (suc at) gone here here-off ∙ away-here;
                piece = led.piece;
                inner = led.inner;
                entry = get-insert_off beside.map piece to led.piece other ∙ entry;
              }
          | inr apart_seat ↦ record {
            seat = led.seat;
            map = led.map;
            is_level = cond-other led_away (suc at) gone led.seat seat_off ∙ cond-other now here (level changed) led.seat apart_seat ∙ led.is_level;
            piece = led.piece;
            inner = led.inner;
            entry = led.entry;
          }
        ]

    pub replaced-led : ((k : ℕ) → k ≢ to → now (suc k) ≢ gone → IsLed now k) → AllLed replaced
    replaced-led led k there =
        let off : k ≢ at = (λ e. there (cond-same led_away (suc at) gone (suc k) (ap (λ n. suc n) e))) in
        elim (cases_eq k to) [
          | inl e ↦ record {
            seat = here;
            map = changed;
            is_level = cond-other led_away (suc at) gone here here-off ∙ away-here;
            piece = piece;
            inner = beside.inner;
            entry = get-insert_here beside.map piece to ∙ ap (λ n. Some n) (sym e);
          }
          | inr other ↦ led-moves k off (led k other (λ none. elim (cases_eq (suc k) here) [
            | inl e ↦ (let g : level beside.map ≡ gone = sym now-here ∙ ap now (sym e) ∙ none in cc)
            | inr away ↦ there (cond-other led_away (suc at) gone (suc k) (suc-off k off) ∙ cond-other now here (level changed) (suc k) away ∙ none)
          ]))
        ]

    -- ---- what is found

    module _ (root : FinMap word_order ℕ) (root_is : world 0 ≡ level root) (key : List ℕ) (rest : List ℕ) (leads : LeadsTo world key here (piece ∷ rest))
        (key_are : ArePieces (pieces key)) (rest_are : ArePieces rest) (held_some : beside.held ≢ []) (at_held : look_in now (level beside.words) beside.held ≡ Some beside.value)
        (at_new : look_in now (level beside.words) rest ≡ Some 0) (others : (p : ℕ) (more : List ℕ) → ArePieces (p ∷ more) → p ∷ more ≢ beside.held → p ∷ more ≢ rest →
        look_in now (level beside.words) (p ∷ more) ≡ None) where
      -- Behind the entry the new level is looked into,
      through : (next : ℕ) (more : List ℕ) → ArePieces (next ∷ more) → look_in led_away (level changed) (piece ∷ next ∷ more) ≡ look_in now (level beside.words) (next ∷ more)
      through next more are =
          ap (λ o. at_entry o (next ∷ more) (λ f. lookup led_away (suc f) (next ∷ more))) (get-insert_here beside.map piece to)
          ∙ ap (λ n. look_in led_away n (next ∷ more)) (cond-other now here (level changed) (suc to) to-off ∙ beside.there)
          ∙ frame-below now led_away behind beside.is (λ place. place ≡ behind here) (λ seat some off. cond-other now here (level changed) seat (λ e. off (ap behind e)))
          (behind (suc to)) beside.words (beside.is.levels (suc to) beside.words beside.there) next more are (λ front last e hit.
          let l = ap (λ (ps : List ℕ). length ps) hit in
          let one = length-append (behind (suc to) ++ next ∷ []) front in
          let two = length-append (behind (suc to)) (next ∷ []) in
          let three = ap (λ (ps : List ℕ). length ps) behind-to in
          let four = length-append (behind here) (piece ∷ []) in
          omega (arith, l, one, two, three, four))

      -- and before it was the tail.
      was-through : (next : ℕ) (more : List ℕ) → look_in world (level beside.map) (piece ∷ next ∷ more) ≡ look_in world (tail beside.held beside.value) (next ∷ more)
      was-through next more =
          ap (λ o. at_entry o (next ∷ more) (λ f. lookup world (suc f) (next ∷ more))) beside.entry
          ∙ ap (λ n. look_in world n (next ∷ more)) beside.is_tail

      found-new : (ps : List ℕ) → ArePieces ps → ps ≡ rest → look_in led_away (level changed) (piece ∷ ps) ≡ Some 0
      found-new [] are e = absurd are
      found-new (next ∷ more) are e = through next more are ∙ ap (look_in now (level beside.words)) e ∙ at_new

      found-others : (ps : List ℕ) → ArePieces (piece ∷ ps) → ps ≢ rest → look_in led_away (level changed) (piece ∷ ps) ≡ look_in world (level beside.map) (piece ∷ ps)
      found-others [] are ne = absurd (beside.inner are)
      found-others (next ∷ more) are ne =
          through next more are.1
          ∙ elim (decide (next ∷ more) beside.held) [
            | inl e ↦ ap (look_in now (level beside.words)) e ∙ at_held ∙ sym (ap (look_in world (tail beside.held beside.value)) e ∙ tail-same world beside.held beside.value held_some)
            | inr off ↦ others next more are.1 off ne ∙ sym (tail-other world beside.held (next ∷ more) beside.value (λ e. off (sym e)))
          ]
          ∙ sym (was-through next more)

      away-change : IsChange world led_away (leads.front ++ piece ∷ rest) (Some 0)
      away-change =
          let front_is = behind-leads world was_behind beside.was key here (piece ∷ rest) leads in
          changes_behind world led_away was_behind beside.was root root_is leads.front leads.inner here leads.way
          (λ seat some off. cond-other now here (level changed) seat (λ e. off (ap was_behind e ∙ front_is)) ∙ (beside.same seat some).0)
          front_is beside.map changed beside.is_level away-here piece (λ p off. get-insert_off beside.map piece to p off) rest (Some 0)
          (λ nil. subst ArePieces nil rest_are) (found-new rest rest_are refl) found-others

      pub replaced-change : IsChange world replaced (pieces key) (Some 0)
      replaced-change =
          let change = subst (λ ps. IsChange world led_away ps (Some 0)) (sym leads.parts) away-change in
          record {
            at_key = freed-look led_away at unled 0 (pieces key) (λ e. omega arith) key_are ∙ change.at_key;
            elsewhere = λ ps are ne. freed-look led_away at unled 0 ps (λ e. omega arith) are ∙ change.elsewhere ps are ne;
          }
