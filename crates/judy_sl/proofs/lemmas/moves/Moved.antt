-- A tail that stands at another place, to which its entry leads.
use Rattle.std.proofs.Common.{◌≡◌, ◌≢◌, ℕ, suc, List, [], ◌∷◌, ◌++◌, Option, None, Some, inl, inr, refl, sym, ap, subst, ◌∙◌, arith}
use Rattle.std.proofs.lemmas.Bool.{cases_eq}
use Rattle.std.proofs.lemmas.Option.{same_Some}
use Rattle.std.specs.FinMap.{FinMap, get, insert, empty}
use Rattle.judy_model.specs.Keys.{word_order}
use Rattle.judy_sl.specs.Pieces.{pieces, IsInner, IsFinal, ArePieces, SpellKey}
use Rattle.judy_sl.specs.World.{World, Node, gone, tail, level, lookup, at_entry}
use Rattle.judy_sl.specs.WorldInvariants.{IsWorld, FitsBehind, IsLed, AllLed}
use Rattle.judy_sl.specs.Behind.{map_behind}
use Rattle.judy_sl.proofs.lemmas.pieces.PieceLemmas.{text_of_key, pieces_are}
use Rattle.judy_sl.proofs.lemmas.pieces.Ways.{look_in}
use Rattle.judy_sl.proofs.lemmas.seats.Seats.{set_node, set_behind, cond-same, cond-other}
use Rattle.judy_sl.proofs.lemmas.seats.Linked.{insert-some, get-insert_here, get-insert_off}
use Rattle.judy_sl.proofs.lemmas.seats.Lone.{last-same, led-once}
use Rattle.judy_sl.proofs.lemmas.counts.KeysBehind.{table_alike}

-- An entry of a level leads to a tail, and nothing stands at another place.
pub record IsTailLed (world : World) (here piece at to : ℕ) : Type 0 where
  pub map : FinMap word_order ℕ
  pub is_level : world here ≡ level map
  pub inner : IsInner piece
  pub entry : get map piece ≡ Some at
  pub held : List ℕ
  pub value : ℕ
  pub is_tail : world (suc at) ≡ tail held value
  pub free : world (suc to) ≡ gone

module _ (world : World) (behind : ℕ → List ℕ) (is : IsWorld world behind) (all : AllLed world) (here piece at to : ℕ) (led : IsTailLed world here piece at to) where
  abbrev pub changed : FinMap word_order ℕ
  changed = insert led.map piece to

  abbrev put : World
  put = set_node world (suc to) (tail led.held led.value)

  abbrev led_on : World
  led_on = set_node put here (level changed)

  abbrev pub moved : World
  moved = set_node led_on (suc at) gone

  abbrev pub moved_behind : ℕ → List ℕ
  moved_behind = set_behind behind (suc to) (behind (suc at))

  -- ---- the seats

  here-off : here ≢ suc at
  here-off e = (let g : level led.map ≡ tail led.held led.value = sym led.is_level ∙ ap world e ∙ led.is_tail in cc)

  here-away : here ≢ suc to
  here-away e = (let g : level led.map ≡ gone = sym led.is_level ∙ ap world e ∙ led.free in cc)

  to-off : suc to ≢ suc at
  to-off e = (let g : gone ≡ tail led.held led.value = sym led.free ∙ ap world e ∙ led.is_tail in cc)

  moved-here : moved here ≡ level changed
  moved-here = cond-other led_on (suc at) gone here here-off ∙ cond-same put here (level changed) here refl

  moved-to : moved (suc to) ≡ tail led.held led.value
  moved-to =
      cond-other led_on (suc at) gone (suc to) to-off
      ∙ cond-other put here (level changed) (suc to) (λ e. here-away (sym e))
      ∙ cond-same world (suc to) (tail led.held led.value) (suc to) refl

  moved-at : moved (suc at) ≡ gone
  moved-at = cond-same led_on (suc at) gone (suc at) refl

  moved-other : (seat : ℕ) → seat ≢ here → seat ≢ suc at → seat ≢ suc to → moved seat ≡ world seat
  moved-other seat apart off away =
      cond-other led_on (suc at) gone seat off
      ∙ cond-other put here (level changed) seat apart
      ∙ cond-other world (suc to) (tail led.held led.value) seat away

  behind-at : behind (suc at) ≡ behind here ++ piece ∷ []
  behind-at = ((is.levels here led.map led.is_level).leads piece at led.entry led.inner).0

  -- The entry alone leads to the tail, and none to the other place.
  only : (seat : ℕ) (map : FinMap word_order ℕ) (other : ℕ) → world seat ≡ level map → get map other ≡ Some at → IsInner other → (seat ≡ here) × (other ≡ piece)
  only seat map other e entry inner = (
    led-once world behind is all seat here map led.map other piece at e entry inner led.is_level led.entry led.inner,
    (last-same (behind seat) (behind here) other piece (sym ((is.levels seat map e).leads other at entry inner).0 ∙ behind-at)).1,
  )

  none : (seat : ℕ) (map : FinMap word_order ℕ) (other found : ℕ) → world seat ≡ level map → get map other ≡ Some found → IsInner other → found ≢ to
  none seat map other found e entry inner same = ((is.levels seat map e).leads other found entry inner).1 (ap (λ n. world (suc n)) same ∙ led.free)

  -- ---- what is found

  on-entry : (p : ℕ) (rest : List ℕ) → ArePieces (p ∷ rest) → (found : Option ℕ) → ((f : ℕ) → IsInner p → found ≡ Some f → (f ≢ at) × (f ≢ to)) →
      ((f : ℕ) → ArePieces rest → f ≢ at → f ≢ to → lookup moved (suc f) rest ≡ lookup world (suc f) rest) →
      at_entry found rest (λ f. lookup moved (suc f) rest) ≡ at_entry found rest (λ f. lookup world (suc f) rest)
  on-entry p rest are None apart goes = refl
  on-entry p [] are (Some f) apart goes = refl
  on-entry p (next ∷ rest) are (Some f) apart goes = (let off = apart f are.0 refl in goes f are.1 off.0 off.1)

  on-node : (seat : ℕ) → seat ≢ here → (node : Node) → world seat ≡ node → (p : ℕ) (rest : List ℕ) → ArePieces (p ∷ rest) →
      ((f : ℕ) → ArePieces rest → f ≢ at → f ≢ to → lookup moved (suc f) rest ≡ lookup world (suc f) rest) →
      look_in moved node (p ∷ rest) ≡ look_in world node (p ∷ rest)
  on-node seat apart gone e p rest are goes = refl
  on-node seat apart (tail held value) e p rest are goes = refl
  on-node seat apart (level map) e p rest are goes =
      on-entry p rest are (get map p)
      (λ f inner entry. ((λ same. apart (only seat map p e (entry ∙ ap (λ n. Some n) same) inner).0), none seat map p f e entry inner))
      goes

  through : (p : ℕ) → p ≡ piece → (rest : List ℕ) → ArePieces (p ∷ rest) → look_in moved (level changed) (p ∷ rest) ≡ look_in world (level led.map) (p ∷ rest)
  through p same [] are = absurd (led.inner (subst IsFinal same are))
  through p same (next ∷ more) are =
      ap (λ o. at_entry o (next ∷ more) (λ f. lookup moved (suc f) (next ∷ more))) (ap (get changed) same ∙ get-insert_here led.map piece to)
      ∙ ap (λ n. look_in moved n (next ∷ more)) moved-to
      ∙ sym (
      ap (λ o. at_entry o (next ∷ more) (λ f. lookup world (suc f) (next ∷ more))) (ap (get led.map) same ∙ led.entry)
      ∙ ap (λ n. look_in world n (next ∷ more)) led.is_tail
      )

  on-here : (p : ℕ) (rest : List ℕ) → ArePieces (p ∷ rest) → ((f : ℕ) → ArePieces rest → f ≢ at → f ≢ to → lookup moved (suc f) rest ≡ lookup world (suc f) rest) →
      look_in moved (level changed) (p ∷ rest) ≡ look_in world (level led.map) (p ∷ rest)
  on-here p rest are goes = elim (cases_eq p piece) [
    | inl same ↦ through p same rest are
    | inr off ↦
        ap (λ o. at_entry o rest (λ f. lookup moved (suc f) rest)) (get-insert_off led.map piece to p off)
        ∙ on-entry p rest are (get led.map p)
        (λ f inner entry. ((λ same. off (only here led.map p led.is_level (entry ∙ ap (λ n. Some n) same) inner).1), none here led.map p f led.is_level entry inner))
        goes
  ]

  suc-off : (f k : ℕ) → f ≢ k → suc f ≢ suc k
  suc-off f k off e = off (cc)

  -- From all other seats the same is found.
  pub moved-found : (seat : ℕ) (ps : List ℕ) → ArePieces ps → seat ≢ suc at → seat ≢ suc to → lookup moved seat ps ≡ lookup world seat ps
  moved-found seat [] are off away = refl
  moved-found seat (p ∷ rest) are off away =
      let goes : (f : ℕ) → ArePieces rest → f ≢ at → f ≢ to → lookup moved (suc f) rest ≡ lookup world (suc f) rest =
      (λ f more apart beside. moved-found (suc f) rest more (suc-off f at apart) (suc-off f to beside)) in
      elim (cases_eq seat here) [
        | inl same ↦
            ap (λ n. look_in moved n (p ∷ rest)) (ap moved same ∙ moved-here)
            ∙ on-here p rest are goes
            ∙ ap (λ n. look_in world n (p ∷ rest)) (sym (ap world same ∙ led.is_level))
        | inr apart ↦
            ap (λ n. look_in moved n (p ∷ rest)) (moved-other seat apart off away)
            ∙ on-node seat apart (world seat) refl p rest are goes
      ]

  pub moved-map : (seat : ℕ) → seat ≢ suc at → seat ≢ suc to → map_behind moved seat ≡ map_behind world seat
  moved-map seat off away =
      table_alike (λ rest. lookup moved seat (pieces rest)) (λ rest. lookup world seat (pieces rest))
      (λ rest string. moved-found seat (pieces rest) (pieces_are rest (text_of_key rest string)) off away)

  -- ---- what holds of it

  there : (f : ℕ) → f ≢ at → world (suc f) ≢ gone → moved (suc f) ≢ gone
  there f off some lost = elim (cases_eq (suc f) here) [
    | inl same ↦ (let g : level changed ≡ gone = sym moved-here ∙ ap moved (sym same) ∙ lost in cc)
    | inr apart ↦ elim (cases_eq f to) [
      | inl same ↦ some (ap (λ n. world (suc n)) same ∙ led.free)
      | inr away ↦ some (sym (moved-other (suc f) apart (suc-off f at off) (suc-off f to away)) ∙ lost)
    ]
  ]

  -- Each of its seats with something is the one of the entry, that of the tail, or as it was.
  fits-other : (seat : ℕ) (map : FinMap word_order ℕ) → world seat ≡ level map → seat ≢ here → FitsBehind moved moved_behind (behind seat) map
  fits-other seat map e apart =
      let fits = is.levels seat map e in record {
        leads = λ p f entry inner.
            let leads = fits.leads p f entry inner in (
              cond-other behind (suc to) (behind (suc at)) (suc f) (suc-off f to (none seat map p f e entry inner)) ∙ leads.0,
              there f (λ same. apart (only seat map p e (entry ∙ ap (λ n. Some n) same) inner).0) leads.1,
            );
        ends = fits.ends;
        short = fits.short;
      }

  fits-here : FitsBehind moved moved_behind (behind here) changed
  fits-here =
      let fits = is.levels here led.map led.is_level in record {
        leads = λ p f entry inner. elim (cases_eq p piece) [
          | inl same ↦
              let it : to ≡ f = same_Some to f (sym (ap (get changed) same ∙ get-insert_here led.map piece to) ∙ entry) in
              subst (λ f. (moved_behind (suc f) ≡ behind here ++ p ∷ []) × (moved (suc f) ≢ gone)) it (
                cond-same behind (suc to) (behind (suc at)) (suc to) refl ∙ behind-at ∙ ap (λ q. behind here ++ q ∷ []) (sym same),
                (λ lost. let g : tail led.held led.value ≡ gone = sym moved-to ∙ lost in cc),
              )
          | inr off ↦
              let was : get led.map p ≡ Some f = sym (get-insert_off led.map piece to p off) ∙ entry in
              let leads = fits.leads p f was inner in (
                cond-other behind (suc to) (behind (suc at)) (suc f) (suc-off f to (none here led.map p f led.is_level was inner)) ∙ leads.0,
                there f (λ same. off (only here led.map p led.is_level (was ∙ ap (λ n. Some n) same) inner).1) leads.1,
              )
        ];
        ends = λ p value entry final. elim (cases_eq p piece) [
          | inl same ↦ absurd (led.inner (subst IsFinal same final))
          | inr off ↦ fits.ends p value (sym (get-insert_off led.map piece to p off) ∙ entry) final
        ];
        short = fits.short;
      }

  level-off : (seat : ℕ) (map : FinMap word_order ℕ) → moved seat ≡ level map → (seat ≢ suc at) × (seat ≢ suc to)
  level-off seat map e = (
    (λ same. let g : gone ≡ level map = sym moved-at ∙ ap moved (sym same) ∙ e in cc),
    (λ same. let g : tail led.held led.value ≡ level map = sym moved-to ∙ ap moved (sym same) ∙ e in cc),
  )

  pub moved-world : IsWorld moved moved_behind
  moved-world = record {
    first = cond-other behind (suc to) (behind (suc at)) 0 (λ e. omega arith) ∙ is.first;
    levels = λ seat map e.
        let off = level-off seat map e in
        subst (λ place. FitsBehind moved moved_behind place map) (sym (cond-other behind (suc to) (behind (suc at)) seat off.1)) (elim (cases_eq seat here) [
          | inl same ↦
              let maps : level changed ≡ level map = sym moved-here ∙ ap moved (sym same) ∙ e in
              let map_is : changed ≡ map = cc in
              subst (λ s. FitsBehind moved moved_behind (behind s) map) (sym same) (subst (FitsBehind moved moved_behind (behind here)) map_is fits-here)
          | inr apart ↦ fits-other seat map (sym (moved-other seat apart off.0 off.1) ∙ e) apart
        ]);
    used = λ k map e.
        let off = level-off (suc k) map e in
        elim (cases_eq (suc k) here) [
          | inl same ↦
              let maps : level changed ≡ level map = sym moved-here ∙ ap moved (sym same) ∙ e in
              let map_is : changed ≡ map = cc in
              subst (λ (m : FinMap word_order ℕ). m ≢ empty) map_is (insert-some led.map piece to)
          | inr apart ↦ is.used k map (sym (moved-other (suc k) apart off.0 off.1) ∙ e)
        ];
    tails = λ seat held value e. elim (cases_eq seat (suc to)) [
      | inl same ↦
          let tails : tail led.held led.value ≡ tail held value = sym moved-to ∙ ap moved (sym same) ∙ e in
          let held_is : led.held ≡ held = cc in
          subst (λ place. SpellKey (place ++ held)) (sym (cond-same behind (suc to) (behind (suc at)) seat same))
          (subst (λ h. SpellKey (behind (suc at) ++ h)) held_is (is.tails (suc at) led.held led.value led.is_tail))
      | inr away ↦
          let off : seat ≢ suc at = (λ same. let g : gone ≡ tail held value = sym moved-at ∙ ap moved (sym same) ∙ e in cc) in
          let apart : seat ≢ here = (λ same. let g : level changed ≡ tail held value = sym moved-here ∙ ap moved (sym same) ∙ e in cc) in
          subst (λ place. SpellKey (place ++ held)) (sym (cond-other behind (suc to) (behind (suc at)) seat away)) (is.tails seat held value (sym (moved-other seat apart off away) ∙ e))
    ];
  }

  -- An entry leads to each child.
  led-kept : (k : ℕ) → k ≢ at → IsLed world k → IsLed moved k
  led-kept k off one = elim (cases_eq one.seat here) [
    | inl same ↦
        let maps : level led.map ≡ level one.map = sym led.is_level ∙ ap world (sym same) ∙ one.is_level in
        let map_is : led.map ≡ one.map = cc in
        let entry : get led.map one.piece ≡ Some k = ap (λ (m : FinMap word_order ℕ). get m one.piece) map_is ∙ one.entry in
        let other : one.piece ≢ piece = (λ it. off (same_Some k at (sym entry ∙ ap (get led.map) it ∙ led.entry))) in
        record {
          seat = here;
          map = changed;
          is_level = moved-here;
          piece = one.piece;
          inner = one.inner;
          entry = get-insert_off led.map piece to one.piece other ∙ entry;
        }
    | inr apart ↦ record {
      seat = one.seat;
      map = one.map;
      is_level =
          moved-other one.seat apart
          (λ same. let g : tail led.held led.value ≡ level one.map = sym led.is_tail ∙ ap world (sym same) ∙ one.is_level in cc)
          (λ same. let g : gone ≡ level one.map = sym led.free ∙ ap world (sym same) ∙ one.is_level in cc)
          ∙ one.is_level;
      piece = one.piece;
      inner = one.inner;
      entry = one.entry;
    }
  ]

  pub moved-led : AllLed moved
  moved-led k some = elim (cases_eq k to) [
    | inl same ↦ record {
      seat = here;
      map = changed;
      is_level = moved-here;
      piece = piece;
      inner = led.inner;
      entry = get-insert_here led.map piece to ∙ ap (λ n. Some n) (sym same);
    }
    | inr away ↦
        let off : k ≢ at = (λ same. some (ap (λ n. moved (suc n)) same ∙ moved-at)) in
        led-kept k off (all k (λ lost. elim (cases_eq (suc k) here) [
          | inl it ↦ (let g : level led.map ≡ gone = sym led.is_level ∙ ap world (sym it) ∙ lost in cc)
          | inr apart ↦ some (moved-other (suc k) apart (suc-off k at off) (suc-off k to away) ∙ lost)
        ]))
  ]
