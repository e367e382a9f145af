-- An entry is taken out, and what stands below it is given back, seat by seat.
use Rattle.std.proofs.Common.{◌≡◌, ◌≢◌, ℕ, zero, suc, ◌<◌, List, [], ◌∷◌, ◌++◌, length, Option, None, Some, inl, inr, refl, sym, ap, subst, ◌∙◌, arith}
use Rattle.std.proofs.lemmas.Bool.{cases_eq}
use Rattle.std.proofs.lemmas.Option.{none-some, same_Some}
use Rattle.std.proofs.lemmas.List.{length-append}
use Rattle.std.specs.FinMap.{FinMap, get, remove}
use Rattle.judy_model.specs.Keys.{word_order}
use Rattle.judy_sl.specs.Pieces.{ArePieces, IsInner, IsFinal}
use Rattle.judy_sl.specs.World.{World, Node, gone, tail, level, lookup, at_entry}
use Rattle.judy_sl.specs.WorldInvariants.{IsWorld, FitsBehind, IsLed, AllLed}
use Rattle.judy_sl.specs.Ways.{LeadsTo}
use Rattle.judy_sl.specs.Grown.{IsChange}
use Rattle.judy_sl.specs.Shrunk.{OnlyEntry, IsLone, IsWide, IsUnled, IsLedOnce, IsOrphan}
use Rattle.judy_sl.proofs.lemmas.pieces.Ways.{look_in}
use Rattle.judy_sl.proofs.lemmas.seats.Seats.{set_node, cond-same, cond-other, IsUsed}
use Rattle.judy_sl.proofs.lemmas.seats.Entries.{changes_value, changes_behind}
use Rattle.judy_sl.proofs.lemmas.inserts.Written.{behind-leads, apart-leads}
use Rattle.judy_sl.proofs.lemmas.seats.Led.{led-set}
use Rattle.judy_sl.proofs.lemmas.seats.Lone.{get-remove_here, get-remove_off, remove-some, lone-others, lone-moves, last-same, led-once}

-- ---- a seat to which no entry leads is made free

module _ (world : World) (at : ℕ) where
  abbrev pub freed : World
  freed = set_node world (suc at) gone

  off-freed : (seat : ℕ) (map : FinMap word_order ℕ) → freed seat ≡ level map → seat ≢ suc at
  off-freed seat map e here = (let g : gone ≡ level map = sym (cond-same world (suc at) gone seat here) ∙ e in cc)

  was-freed : (seat : ℕ) (map : FinMap word_order ℕ) → freed seat ≡ level map → world seat ≡ level map
  was-freed seat map e = sym (cond-other world (suc at) gone seat (off-freed seat map e)) ∙ e

  some-freed : (to : ℕ) → freed (suc to) ≢ gone → (to ≢ at) × (world (suc to) ≢ gone)
  some-freed to there =
      let off : suc to ≢ suc at = (λ e. there (cond-same world (suc at) gone (suc to) e)) in
      ((λ e. off (ap (λ n. suc n) e)), (λ none. there (cond-other world (suc at) gone (suc to) off ∙ none)))

  module _ (unled : IsUnled world at) where
    led-other : (seat : ℕ) (map : FinMap word_order ℕ) (piece found : ℕ) → world seat ≡ level map → get map piece ≡ Some found → IsInner piece → found ≢ at
    led-other seat map piece found e entry inner here = unled seat map piece e (entry ∙ ap (λ n. Some n) here) inner

    suc-other : (found : ℕ) → found ≢ at → suc found ≢ suc at
    suc-other found off e = off (cc)

    pub freed-world : (behind : ℕ → List ℕ) → IsWorld world behind → IsWorld freed behind
    freed-world behind is = record {
      first = is.first;
      levels = λ seat map e.
          let was = was-freed seat map e in
          let fits = is.levels seat map was in
          record {
            leads = λ piece found entry inner.
                let leads = fits.leads piece found entry inner in
                (leads.0, (λ none. leads.1 (sym (cond-other world (suc at) gone (suc found) (suc-other found (led-other seat map piece found was entry inner))) ∙ none)));
            ends = fits.ends;
            short = fits.short;
          };
      used = λ to map e. is.used to map (was-freed (suc to) map e);
      tails = λ seat held value e.
          let off : seat ≢ suc at = (λ here. let g : gone ≡ tail held value = sym (cond-same world (suc at) gone seat here) ∙ e in cc) in
          is.tails seat held value (sym (cond-other world (suc at) gone seat off) ∙ e);
    }

    -- What is found stays.
    on-entry : (seat : ℕ) (map : FinMap word_order ℕ) (piece : ℕ) (rest : List ℕ) (entry : Option ℕ) → world seat ≡ level map → get map piece ≡ entry →
        ArePieces (piece ∷ rest) → ((found : ℕ) → found ≢ at → ArePieces rest → lookup freed (suc found) rest ≡ lookup world (suc found) rest) →
        at_entry entry rest (λ found. lookup freed (suc found) rest) ≡ at_entry entry rest (λ found. lookup world (suc found) rest)
    on-entry seat map piece rest None e entry are goes = refl
    on-entry seat map piece [] (Some found) e entry are goes = refl
    on-entry seat map piece (next ∷ rest) (Some found) e entry are goes = goes found (led-other seat map piece found e entry are.0) are.1

    on-node : (seat : ℕ) (piece : ℕ) (rest : List ℕ) (node : Node) → world seat ≡ node → ArePieces (piece ∷ rest) →
        ((found : ℕ) → found ≢ at → ArePieces rest → lookup freed (suc found) rest ≡ lookup world (suc found) rest) → look_in freed node (piece ∷ rest) ≡ look_in world node (piece ∷ rest)
    on-node seat piece rest gone e are goes = refl
    on-node seat piece rest (tail held value) e are goes = refl
    on-node seat piece rest (level map) e are goes = on-entry seat map piece rest (get map piece) e refl are goes

    pub freed-look : (seat : ℕ) (ps : List ℕ) → seat ≢ suc at → ArePieces ps → lookup freed seat ps ≡ lookup world seat ps
    freed-look seat [] off are = refl
    freed-look seat (piece ∷ rest) off are =
        ap (λ node. look_in freed node (piece ∷ rest)) (cond-other world (suc at) gone seat off)
        ∙ on-node seat piece rest (world seat) refl are (λ found apart more. freed-look (suc found) rest (suc-other found apart) more)

  module _ (ps : List ℕ) (loose : IsOrphan world at ps) where
    led-on : (to : ℕ) (led : IsLed world to) → led.seat ≢ suc at → IsLed freed to
    led-on to led off = record { seat = led.seat; map = led.map; is_level = cond-other world (suc at) gone led.seat off ∙ led.is_level; piece = led.piece; inner = led.inner; entry = led.entry }

    -- Where it led on to nothing, each is led to again.
    all-freed : ((to : ℕ) (led : IsLed world to) → led.seat ≢ suc at) → AllLed freed
    all-freed off to there =
        let some = some-freed to there in
        let led = loose.led to some.0 some.1 in
        led-on to led (off to led)

    pub freed-tail : (held : List ℕ) (value : ℕ) → world (suc at) ≡ tail held value → AllLed freed
    freed-tail held value is = all-freed (λ to led here. let g : tail held value ≡ level led.map = sym is ∙ ap world (sym here) ∙ led.is_level in cc)

    module _ (map : FinMap word_order ℕ) (is : world (suc at) ≡ level map) (piece : ℕ) (only : OnlyEntry map piece) where
      entry-of : (to : ℕ) (led : IsLed world to) → led.seat ≡ suc at → (led.piece ≡ piece) × (get map piece ≡ Some to)
      entry-of to led here =
          let maps : level led.map ≡ level map = sym led.is_level ∙ ap world here ∙ is in
          let same : led.map ≡ map = cc in
          let entry : get map led.piece ≡ Some to = ap (λ (m : FinMap word_order ℕ). get m led.piece) (sym same) ∙ led.entry in
          elim (cases_eq led.piece piece) [
            | inl e ↦ (e, ap (get map) (sym e) ∙ entry)
            | inr apart ↦ absurd (none-some to (sym (only led.piece apart) ∙ entry))
          ]

      pub freed-last : IsFinal piece → AllLed freed
      freed-last final = all-freed (λ to led here. led.inner (subst IsFinal (sym (entry-of to led here).0) final))

      -- Where it led on, that is loose now.
      pub freed-on : (next : ℕ) (rest : List ℕ) → get map piece ≡ Some next → IsInner piece → ArePieces rest → IsLone world next rest → IsOrphan freed next rest
      freed-on next rest entry inner are lone = record {
        unled = λ seat m p e m_entry p_inner. off-freed seat m e (loose.once seat (suc at) m map p piece next (was-freed seat m e) m_entry p_inner is entry inner);
        led = λ to off there.
            let some = some-freed to there in
            let led = loose.led to some.0 some.1 in
            led-on to led (λ here. off (same_Some to next (sym (entry-of to led here).1 ∙ entry)));
        once = λ seat other m more p q to e m_entry p_inner f more_entry q_inner. loose.once seat other m more p q to (was-freed seat m e) m_entry p_inner (was-freed other more f) more_entry q_inner;
        lone =
            lone-moves world freed (λ to. to ≢ at) (λ to keep. cond-other world (suc at) gone (suc to) (suc-other loose.unled to keep))
            (λ to m p found keep e m_entry p_inner. led-other loose.unled (suc to) m p found e m_entry p_inner) next rest (led-other loose.unled (suc at) map piece next is entry inner) are lone;
      }

-- ---- an entry is taken out

module _ (world : World) (behind : ℕ → List ℕ) (is : IsWorld world behind) (all : AllLed world) (root : FinMap word_order ℕ) (root_is : world 0 ≡ level root)
    (key : List ℕ) (here piece : ℕ) (rest : List ℕ) (leads : LeadsTo world key here (piece ∷ rest)) (map : FinMap word_order ℕ) (is_level : world here ≡ level map) where
  abbrev changed : FinMap word_order ℕ
  changed = remove map piece

  abbrev pub taken_out : World
  taken_out = set_node world here (level changed)

  -- An entry that is left.
  entry-left : (p found : ℕ) → get changed p ≡ Some found → (p ≢ piece) × (get map p ≡ Some found)
  entry-left p found entry =
      let off : p ≢ piece = (λ e. none-some found (sym (ap (get changed) e ∙ get-remove_here map piece) ∙ entry)) in
      (off, sym (get-remove_off map piece p off) ∙ entry)

  fits-left : FitsBehind world behind (behind here) changed
  fits-left =
      let fits = is.levels here map is_level in
      record {
        leads = λ p found entry inner. fits.leads p found (entry-left p found entry).1 inner;
        ends = λ p value entry final. fits.ends p value (entry-left p value entry).1 final;
        short = fits.short;
      }

  pub used-left : (seat value : ℕ) → get map piece ≡ Some value → IsWide seat map → IsUsed seat (level changed)
  used-left zero value there wide = tt
  used-left (suc to) value there (inl e) = absurd (omega arith)
  used-left (suc to) value there (inr many) = remove-some map piece value many there

  pub fits-here : FitsBehind world behind (behind here) changed
  fits-here = fits-left

  there-level : taken_out here ≡ level changed
  there-level = cond-same world here (level changed) here refl

  behind-here : behind here ≡ leads.front
  behind-here = behind-leads world behind is key here (piece ∷ rest) leads

  apart-here : (at : ℕ) → world at ≢ gone → behind at ≢ leads.front → taken_out at ≡ world at
  apart-here = apart-leads world behind is key here (piece ∷ rest) leads (level changed)

  here-some : world here ≢ gone
  here-some none = (let g : gone ≡ level map = sym none ∙ is_level in cc)

  -- The key ends there.
  pub ends-change : rest ≡ [] → IsFinal piece → IsChange world taken_out (leads.front ++ piece ∷ rest) None
  ends-change nil final =
      subst (λ ps. IsChange world taken_out (leads.front ++ piece ∷ ps) None) (sym nil) (
      changes_value world taken_out behind is root root_is leads.front leads.inner here leads.way apart-here behind-here map changed is_level there-level piece
      (λ p off. get-remove_off map piece p off) None final (get-remove_here map piece)
      )

  pub ends-led : IsFinal piece → AllLed taken_out
  ends-led final =
      led-set world here (level changed) (λ m e.
      let maps : level map ≡ level m = sym is_level ∙ e in
      let same : map ≡ m = cc in
      (changed, refl, λ p to inner entry. get-remove_off map piece p (λ e. inner (subst IsFinal (sym e) final)) ∙ ap (λ (l : FinMap word_order ℕ). get l p) same ∙ entry)) here-some all

  -- The key goes on, alone.
  module _ (at : ℕ) (entry : get map piece ≡ Some at) (inner : IsInner piece) (rest_are : ArePieces rest) (lone : IsLone world at rest) where
    nothing-else : (other : List ℕ) → ArePieces (piece ∷ other) → other ≢ rest → look_in world (level map) (piece ∷ other) ≡ None
    nothing-else [] are ne = absurd (inner are)
    nothing-else (next ∷ other) are ne =
        ap (λ o. at_entry o (next ∷ other) (λ to. lookup world (suc to) (next ∷ other))) entry
        ∙ lone-others world at rest (next ∷ other) lone rest_are are.1 ne

    not-there : (ps : List ℕ) → look_in taken_out (level changed) (piece ∷ ps) ≡ None
    not-there ps = ap (λ o. at_entry o ps (λ to. lookup taken_out (suc to) ps)) (get-remove_here map piece)

    rest-some : rest ≢ []
    rest-some nil = subst ArePieces nil rest_are

    pub on-change : IsChange world taken_out (leads.front ++ piece ∷ rest) None
    on-change =
        changes_behind world taken_out behind is root root_is leads.front leads.inner here leads.way apart-here behind-here map changed is_level there-level piece
        (λ p off. get-remove_off map piece p off) rest None rest-some (not-there rest) (λ other are ne. not-there other ∙ sym (nothing-else other are ne))

    -- A level that is left, and what it was.
    was-level : (seat : ℕ) (m : FinMap word_order ℕ) (p to : ℕ) → taken_out seat ≡ level m → get m p ≡ Some to →
        (was : FinMap word_order ℕ) × (world seat ≡ level was) × (get was p ≡ Some to) × (seat ≡ here → p ≢ piece)
    was-level seat m p to e m_entry = elim (cases_eq seat here) [
      | inl same ↦
          let maps : level changed ≡ level m = sym (cond-same world here (level changed) seat same) ∙ e in
          let map_is : changed ≡ m = cc in
          let left = entry-left p to (ap (λ (l : FinMap word_order ℕ). get l p) map_is ∙ m_entry) in
          (map, ap world same ∙ is_level, left.1, λ _. left.0)
      | inr off ↦ (m, sym (cond-other world here (level changed) seat off) ∙ e, m_entry, λ same. absurd (off same))
    ]

    once : IsLedOnce world
    once = led-once world behind is all

    some-left : (to : ℕ) → taken_out (suc to) ≢ gone → world (suc to) ≢ gone
    some-left to there none = elim (cases_eq (suc to) here) [
      | inl e ↦ here-some (ap world (sym e) ∙ none)
      | inr off ↦ there (cond-other world here (level changed) (suc to) off ∙ none)
    ]

    led-left : (to : ℕ) → to ≢ at → (led : IsLed world to) → IsLed taken_out to
    led-left to apart led = elim (cases_eq led.seat here) [
      | inl same ↦
          let maps : level led.map ≡ level map = sym led.is_level ∙ ap world same ∙ is_level in
          let map_is : led.map ≡ map = cc in
          let there : get map led.piece ≡ Some to = ap (λ (l : FinMap word_order ℕ). get l led.piece) (sym map_is) ∙ led.entry in
          let off : led.piece ≢ piece = (λ e. apart (same_Some to at (sym there ∙ ap (get map) e ∙ entry))) in
          record { seat = here; map = changed; is_level = there-level; piece = led.piece; inner = led.inner; entry = get-remove_off map piece led.piece off ∙ there }
      | inr off ↦ record { seat = led.seat; map = led.map; is_level = cond-other world here (level changed) led.seat off ∙ led.is_level; piece = led.piece; inner = led.inner; entry = led.entry }
    ]

    -- Each seat further down has more pieces behind it.
    longer-behind : (seat : ℕ) (m : FinMap word_order ℕ) (p to : ℕ) → world seat ≡ level m → get m p ≡ Some to → IsInner p → length (behind seat) < length (behind (suc to))
    longer-behind seat m p to e m_entry p_inner =
        let b = ((is.levels seat m e).leads p to m_entry p_inner).0 in
        let l = ap (λ (xs : List ℕ). length xs) b ∙ length-append (behind seat) (p ∷ []) in
        omega (arith, l)

    pub on-orphan : IsOrphan taken_out at rest
    on-orphan = record {
      unled = λ seat m p e m_entry p_inner.
          let was = was-level seat m p at e m_entry in
          let same : seat ≡ here = once seat here was.0 map p piece at was.1 was.2 p_inner is_level entry inner in
          let one = ((is.levels seat was.0 was.1).leads p at was.2 p_inner).0 in
          let two = ((is.levels here map is_level).leads piece at entry inner).0 in
          was.3 same (last-same (behind seat) (behind here) p piece (sym one ∙ two)).1;
      led = λ to apart there. led-left to apart (all to (some-left to there));
      once = λ seat other m more p q to e m_entry p_inner f more_entry q_inner.
          let one = was-level seat m p to e m_entry in
          let two = was-level other more q to f more_entry in
          once seat other one.0 two.0 p q to one.1 one.2 p_inner two.1 two.2 q_inner;
      lone = lone-moves world taken_out (λ to. length (behind here) < length (behind (suc to)))
          (λ to deep. cond-other world here (level changed) (suc to) (λ e. let l = ap (λ seat. length (behind seat)) e in omega (arith, deep, l)))
          (λ to m p found deep e m_entry p_inner. let l = longer-behind (suc to) m p found e m_entry p_inner in omega (arith, deep, l))
          at rest (longer-behind here map piece at is_level entry inner) rest_are lone;
    }
