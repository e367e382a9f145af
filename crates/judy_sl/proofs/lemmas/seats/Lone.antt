-- One key alone, from a child all the way down; and that no two children have the same pieces behind them.
use Rattle.std.proofs.Common.{◌≡◌, ◌≢◌, ℕ, zero, suc, ◌-◌, ◌≤◌, cond, List, [], ◌∷◌, ◌++◌, length, is_some, Option, None, Some, inl, inr, refl, sym, ap, subst, ◌∙◌, arith}
use Rattle.std.proofs.lemmas.Bool.{cases_eq}
use Rattle.std.proofs.lemmas.Cmp.{nat_cmp_total}
use Rattle.std.proofs.lemmas.Option.{same_Some}
use Rattle.std.proofs.lemmas.List.{length-append}
use Rattle.std.specs.Ordering.{is_eq}
use Rattle.std.specs.Cmp.{tied_itself}
use Rattle.std.specs.FinMap.{FinMap, get, remove, empty, len, get-remove, get-empty, len-remove, len-empty, empty_of_len}
use Rattle.judy_model.specs.Keys.{word_order}
use Rattle.judy_sl.specs.Pieces.{ArePieces, IsInner}
use Rattle.judy_sl.specs.World.{World, Node, gone, tail, level, lookup, at_entry}
use Rattle.judy_sl.specs.WorldInvariants.{IsWorld, IsLed, AllLed}
use Rattle.judy_sl.specs.Shrunk.{OnlyEntry, EntryLone, NodeLone, IsLone, IsLedOnce}
use Rattle.judy_sl.proofs.lemmas.pieces.Ways.{look_in, tail-same, tail-other}
use Rattle.judy_sl.proofs.lemmas.seats.Linked.{eq_nat-other}

-- ---- a map without a key

module _ (map : FinMap word_order ℕ) (key : ℕ) where
  pub get-remove_here : get (remove map key) key ≡ None
  get-remove_here = get-remove nat_cmp_total map key key ∙ ap (λ b. cond b None (get map key)) (ap is_eq (tied_itself nat_cmp_total key))

  pub get-remove_off : (other : ℕ) → other ≢ key → get (remove map key) other ≡ get map other
  get-remove_off other apart = get-remove nat_cmp_total map key other ∙ ap (λ b. cond b None (get map other)) (eq_nat-other other key apart)

  len-without : (value : ℕ) → get map key ≡ Some value → len (remove map key) ≡ len map - 1
  len-without value there = len-remove nat_cmp_total map key ∙ ap (λ (o : Option ℕ). cond (is_some o) (len map - 1) (len map)) there

  -- One entry is the only one where there are no two.
  pub only-entry : (value : ℕ) → len map ≤ 1 → get map key ≡ Some value → OnlyEntry map key
  only-entry value small there other apart =
      let l = len-without value there in
      let none : remove map key ≡ empty = empty_of_len (remove map key) (omega (arith, l)) in
      sym (get-remove_off other apart) ∙ ap (λ (m : FinMap word_order ℕ). get m other) none ∙ get-empty word_order other

  -- Where there are two, one is left.
  pub remove-some : (value : ℕ) → 2 ≤ len map → get map key ≡ Some value → remove map key ≢ empty
  remove-some value many there none =
      let l = len-without value there in
      let e : len (remove map key) ≡ 0 = ap (λ (m : FinMap word_order ℕ). len m) none ∙ len-empty word_order ℕ in
      omega (arith, l, e)

-- ---- nothing else is found

module _ (world : World) where
  entry-others : (piece : ℕ) (rest other : List ℕ) (entry : Option ℕ) → EntryLone entry rest (λ found. IsLone world found rest) → ArePieces (piece ∷ rest) →
      ArePieces (piece ∷ other) → other ≢ rest → ((found : ℕ) → IsLone world found rest → ArePieces rest → ArePieces other → other ≢ rest → lookup world (suc found) other ≡ None) →
      at_entry entry other (λ found. lookup world (suc found) other) ≡ None
  entry-others piece rest other None lone are other_are ne goes = refl
  entry-others piece [] [] (Some found) lone are other_are ne goes = absurd (ne refl)
  entry-others piece [] (next ∷ other) (Some found) lone are other_are ne goes = absurd (other_are.0 are)
  entry-others piece (next ∷ rest) [] (Some found) lone are other_are ne goes = absurd (are.0 other_are)
  entry-others piece (first ∷ rest) (next ∷ other) (Some found) lone are other_are ne goes = goes found lone are.1 other_are.1 ne

  node-others : (piece : ℕ) (rest : List ℕ) (first : ℕ) (other : List ℕ) (node : Node) → NodeLone node piece rest (λ found. IsLone world found rest) →
      ArePieces (piece ∷ rest) → ArePieces (first ∷ other) → first ∷ other ≢ piece ∷ rest → ((found : ℕ) → IsLone world found rest → ArePieces rest → ArePieces other →
      other ≢ rest → lookup world (suc found) other ≡ None) → look_in world node (first ∷ other) ≡ None
  node-others piece rest first other gone lone are other_are ne goes = refl
  node-others piece rest first other (tail held value) lone are other_are ne goes = tail-other world held (first ∷ other) value (λ e. ne (sym e ∙ lone))
  node-others piece rest first other (level map) lone are other_are ne goes = elim (cases_eq first piece) [
    | inl e ↦
        ap (λ p. at_entry (get map p) other (λ found. lookup world (suc found) other)) e
        ∙ entry-others piece rest other (get map piece) lone.1 are (subst (λ p. ArePieces (p ∷ other)) e other_are) (λ same. ne (λ i. e i ∷ same i)) goes
    | inr off ↦ ap (λ o. at_entry o other (λ found. lookup world (suc found) other)) (lone.0 first off)
  ]

  pub lone-others : (at : ℕ) (ps other : List ℕ) → IsLone world at ps → ArePieces ps → ArePieces other → other ≢ ps → lookup world (suc at) other ≡ None
  lone-others at [] other lone are other_are ne = absurd lone
  lone-others at (piece ∷ rest) [] lone are other_are ne = refl
  lone-others at (piece ∷ rest) (first ∷ other) lone are other_are ne =
      node-others piece rest first other (world (suc at)) lone are other_are ne (λ found found_lone rest_are more_are off. lone-others found rest other found_lone rest_are more_are off)

-- ---- the key itself is found

module _ (world : World) where
  entry-found : (piece : ℕ) (rest : List ℕ) (entry : Option ℕ) → EntryLone entry rest (λ found. IsLone world found rest) → ArePieces (piece ∷ rest) →
      ((found : ℕ) → IsLone world found rest → ArePieces rest → (value : ℕ) × (lookup world (suc found) rest ≡ Some value)) →
      (value : ℕ) × (at_entry entry rest (λ found. lookup world (suc found) rest) ≡ Some value)
  entry-found piece rest None lone are goes = absurd lone
  entry-found piece [] (Some found) lone are goes = (found, refl)
  entry-found piece (next ∷ rest) (Some found) lone are goes = goes found lone are.1

  node-found : (piece : ℕ) (rest : List ℕ) (node : Node) → NodeLone node piece rest (λ found. IsLone world found rest) → ArePieces (piece ∷ rest) →
      ((found : ℕ) → IsLone world found rest → ArePieces rest → (value : ℕ) × (lookup world (suc found) rest ≡ Some value)) → (value : ℕ) × (look_in world node (piece ∷ rest) ≡ Some value)
  node-found piece rest gone lone are goes = absurd lone
  node-found piece rest (tail held value) lone are goes = (value, ap (λ l. look_in world (tail l value) (piece ∷ rest)) lone ∙ tail-same world (piece ∷ rest) value (λ e. cc))
  node-found piece rest (level map) lone are goes = entry-found piece rest (get map piece) lone.1 are goes

  pub lone-found : (at : ℕ) (ps : List ℕ) → IsLone world at ps → ArePieces ps → (value : ℕ) × (lookup world (suc at) ps ≡ Some value)
  lone-found at [] lone are = absurd lone
  lone-found at (piece ∷ rest) lone are = node-found piece rest (world (suc at)) lone are (λ found found_lone rest_are. lone-found found rest found_lone rest_are)

-- ---- where the seats on the way stay

module _ (world other : World) (Keep : ℕ → Type 0) (same : (at : ℕ) → Keep at → other (suc at) ≡ world (suc at))
    (step : (at : ℕ) (map : FinMap word_order ℕ) (piece found : ℕ) → Keep at → world (suc at) ≡ level map → get map piece ≡ Some found → IsInner piece → Keep found) where
  entry-moves : (map : FinMap word_order ℕ) (piece : ℕ) (rest : List ℕ) (entry : Option ℕ) → get map piece ≡ entry → ArePieces (piece ∷ rest) →
      EntryLone entry rest (λ found. IsLone world found rest) → ((found : ℕ) → get map piece ≡ Some found → IsInner piece → ArePieces rest → IsLone world found rest →
      IsLone other found rest) → EntryLone entry rest (λ found. IsLone other found rest)
  entry-moves map piece rest None e are lone goes = lone
  entry-moves map piece [] (Some found) e are lone goes = tt
  entry-moves map piece (next ∷ rest) (Some found) e are lone goes = goes found e are.0 are.1 lone

  node-moves : (at piece : ℕ) (rest : List ℕ) (node : Node) → world (suc at) ≡ node → Keep at → ArePieces (piece ∷ rest) → NodeLone node piece rest (λ found. IsLone world found rest) →
      ((found : ℕ) → Keep found → ArePieces rest → IsLone world found rest → IsLone other found rest) → NodeLone node piece rest (λ found. IsLone other found rest)
  node-moves at piece rest gone is keep are lone goes = lone
  node-moves at piece rest (tail held value) is keep are lone goes = lone
  node-moves at piece rest (level map) is keep are lone goes =
      (lone.0, entry-moves map piece rest (get map piece) refl are lone.1 (λ found e inner rest_are found_lone. goes found (step at map piece found keep is e inner) rest_are found_lone))

  pub lone-moves : (at : ℕ) (ps : List ℕ) → Keep at → ArePieces ps → IsLone world at ps → IsLone other at ps
  lone-moves at [] keep are lone = lone
  lone-moves at (piece ∷ rest) keep are lone =
      subst (λ node. NodeLone node piece rest (λ found. IsLone other found rest)) (sym (same at keep)) (
      node-moves at piece rest (world (suc at)) refl keep are lone (λ found found_keep rest_are found_lone. lone-moves found rest found_keep rest_are found_lone)
      )

-- ---- behind the same pieces stands one seat

nil-more : (xs : List ℕ) (x : ℕ) → [] ≢ xs ++ x ∷ []
nil-more [] x e = cc
nil-more (y ∷ xs) x e = cc

pub last-same : (xs ys : List ℕ) (x y : ℕ) → xs ++ x ∷ [] ≡ ys ++ y ∷ [] → (xs ≡ ys) × (x ≡ y)
last-same [] [] x y e = (refl, cc)
last-same [] (b ∷ ys) x y e = absurd (nil-more ys y (cc))
last-same (a ∷ xs) [] x y e = absurd (nil-more xs x (cc))
last-same (a ∷ xs) (b ∷ ys) x y e =
    let head : a ≡ b = cc in
    let more = last-same xs ys x y (cc) in
    ((λ i. head i ∷ more.0 i), more.1)

module _ (world : World) (behind : ℕ → List ℕ) (is : IsWorld world behind) where
  led-behind : (at : ℕ) (led : IsLed world at) → behind (suc at) ≡ behind led.seat ++ led.piece ∷ []
  led-behind at led = ((is.levels led.seat led.map led.is_level).leads led.piece at led.entry led.inner).0

  led-some : (at : ℕ) (led : IsLed world at) → world led.seat ≢ gone
  led-some at led none = (let g : gone ≡ level led.map = sym none ∙ led.is_level in cc)

  pub same-seat : AllLed world → (deep seat other : ℕ) → length (behind seat) ≡ deep → world seat ≢ gone → world other ≢ gone → behind seat ≡ behind other → seat ≡ other
  same-seat all deep zero zero long some more e = refl
  same-seat all deep zero (suc at) long some more e =
      let led = all at more in
      absurd (nil-more (behind led.seat) led.piece (sym is.first ∙ e ∙ led-behind at led))
  same-seat all deep (suc at) zero long some more e =
      let led = all at some in
      absurd (nil-more (behind led.seat) led.piece (sym is.first ∙ sym e ∙ led-behind at led))
  same-seat all zero (suc at) (suc to) long some more e =
      let led = all at some in
      let l = ap (λ (xs : List ℕ). length xs) (led-behind at led) ∙ length-append (behind led.seat) (led.piece ∷ []) in
      absurd (omega (arith, l))
  same-seat all (suc deep) (suc at) (suc to) long some more e =
      let one = all at some in
      let two = all to more in
      let parts = last-same (behind one.seat) (behind two.seat) one.piece two.piece (sym (led-behind at one) ∙ e ∙ led-behind to two) in
      let l = ap (λ (xs : List ℕ). length xs) (led-behind at one) ∙ length-append (behind one.seat) (one.piece ∷ []) in
      let seat = same-seat all deep one.seat two.seat (omega (arith, l)) (led-some at one) (led-some to two) parts.0 in
      let maps : level one.map ≡ level two.map = sym one.is_level ∙ ap world seat ∙ two.is_level in
      let map : one.map ≡ two.map = cc in
      ap (λ n. suc n) (same_Some at to (sym one.entry ∙ ap (λ (m : FinMap word_order ℕ). get m one.piece) map ∙ ap (get two.map) parts.1 ∙ two.entry))

  pub led-once : AllLed world → IsLedOnce world
  led-once all seat other map more piece next at one_level one_entry one_inner two_level two_entry two_inner =
      let one = (is.levels seat map one_level).leads piece at one_entry one_inner in
      let two = (is.levels other more two_level).leads next at two_entry two_inner in
      same-seat all (length (behind seat)) seat other refl (λ none. let g : gone ≡ level map = sym none ∙ one_level in cc) (λ none. let g : gone ≡ level more = sym none ∙ two_level in cc)
      (last-same (behind seat) (behind other) piece next (sym one.0 ∙ two.0)).0
