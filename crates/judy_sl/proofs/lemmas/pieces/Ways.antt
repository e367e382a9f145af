-- Steps on the way of a key.
use Rattle.std.proofs.Common.{◌≡◌, ◌≢◌, ℕ, suc, ◌/◌, true, false, cond, ◌<◌, ◌≤◌, List, [], ◌∷◌, ◌++◌, length, drop, Option, None, Some, refl, sym, ap, ◌∙◌, arith}
use Rattle.std.proofs.lemmas.List.{length-drop, append-nil, append_assoc}
use Rattle.std.proofs.lemmas.Option.{none-some}
use Rattle.std.specs.FinMap.{FinMap, get}
use Rattle.std.specs.Ordering.{eq_by_cmp, is_eq}
use Rattle.std.specs.Cmp.{tied_itself}
use Rattle.std.specs.declared.cmp.Ordering.{Ordering}
use Rattle.std.specs.declared.cmp.Ordering.TheVariants.{Less, Equal, Greater}
use Rattle.judy_model.specs.Keys.{word_order, byte_order}
use Rattle.judy_model.proofs.lemmas.maps.TableLemmas.{byte_order_total, byte_order_same}
use Rattle.judy_sl.specs.Pieces.{pieces, pieces_in, piece_of, AreInner}
use Rattle.judy_sl.specs.WorldInvariants.{IsWorld}
use Rattle.judy_sl.specs.World.{World, Node, gone, tail, level, at_node, at_entry, lookup, step_node, step_entry, walk}

-- Fewer than eight bytes are one piece.
pub pieces_short : (bytes : List ℕ) → length bytes < 8 → pieces bytes ≡ piece_of bytes ∷ []
unfolding pieces
pieces_short bytes short =
    let e : length bytes / 8 ≡ 0 = omega arith in
    ap (λ n. pieces_in n bytes) e

-- Others begin with a whole piece.
pub pieces_long : (bytes : List ℕ) → 8 ≤ length bytes → pieces bytes ≡ piece_of bytes ∷ pieces (drop 8 bytes)
unfolding pieces
pieces_long bytes long =
    let l = length-drop 8 bytes in
    let e : length bytes / 8 ≡ suc (length (drop 8 bytes) / 8) = omega (arith, l) in
    ap (λ n. pieces_in n bytes) e

-- What is found at a node under pieces.
abbrev pub look_in : World → Node → List ℕ → Option ℕ
look_in world node [] = None
look_in world node (piece ∷ rest) = at_node node piece rest (λ found. lookup world (suc found) rest)

pub lookup-in : (world : World) (seat : ℕ) (ps : List ℕ) → lookup world seat ps ≡ look_in world (world seat) ps
lookup-in world seat [] = refl
lookup-in world seat (piece ∷ rest) = refl

-- Lists that compare as equal are equal, and others don't compare as equal.
pub equal_lists : (r : Ordering) → is_eq r ≡ true → r ≡ Equal
equal_lists Less e = cc
equal_lists Equal e = refl
equal_lists Greater e = cc

pub eq_by_cmp-same : (xs : List ℕ) → eq_by_cmp byte_order xs xs ≡ true
eq_by_cmp-same xs = ap is_eq (tied_itself byte_order_total xs)

pub same-eq_by_cmp : (xs ys : List ℕ) → eq_by_cmp byte_order xs ys ≡ true → xs ≡ ys
same-eq_by_cmp xs ys e = byte_order_same xs ys (equal_lists (byte_order xs ys) e)

pub eq_by_cmp-other : (xs ys : List ℕ) → xs ≢ ys → eq_by_cmp byte_order xs ys ≡ false
eq_by_cmp-other xs ys apart = elim (eq_by_cmp byte_order xs ys) as (λ b. eq_by_cmp byte_order xs ys ≡ b → b ≡ false) [
  | true ↦ λ e. absurd (apart (same-eq_by_cmp xs ys e))
  | false ↦ λ e. refl
] refl

-- A tail answers for its own pieces alone.
pub tail-same : (world : World) (held : List ℕ) (value : ℕ) → held ≢ [] → look_in world (tail held value) held ≡ Some value
tail-same world [] value some = absurd (some refl)
tail-same world (piece ∷ rest) value some = ap (λ b. cond b (Some value) None) (eq_by_cmp-same (piece ∷ rest))

pub tail-other : (world : World) (held ps : List ℕ) (value : ℕ) → held ≢ ps → look_in world (tail held value) ps ≡ None
tail-other world held [] value apart = refl
tail-other world held (piece ∷ rest) value apart = ap (λ b. cond b (Some value) None) (eq_by_cmp-other held (piece ∷ rest) apart)

-- A step of a way is a step of a look-up.
entry-step : (entry : Option ℕ) (ps : List ℕ) (on find : ℕ → Option ℕ) (end : ℕ) (found : Option ℕ) → ps ≢ [] → ((at : ℕ) → on at ≡ Some end → find at ≡ found) →
    step_entry entry on ≡ Some end → at_entry entry ps find ≡ found
entry-step None ps on find end found some goes way = absurd (none-some end way)
entry-step (Some at) [] on find end found some goes way = absurd (some refl)
entry-step (Some at) (next ∷ ps) on find end found some goes way = goes at way

walk-step : (node : Node) (piece : ℕ) (ps : List ℕ) (on find : ℕ → Option ℕ) (end : ℕ) (found : Option ℕ) → ps ≢ [] → ((at : ℕ) → on at ≡ Some end → find at ≡ found) →
    step_node node piece on ≡ Some end → at_node node piece ps find ≡ found
walk-step gone piece ps on find end found some goes way = absurd (none-some end way)
walk-step (tail held value) piece ps on find end found some goes way = absurd (none-some end way)
walk-step (level map) piece ps on find end found some goes way = entry-step (get map piece) ps on find end found some goes way

more-some : (front : List ℕ) (piece : ℕ) (rest : List ℕ) → front ++ piece ∷ rest ≢ []
more-some [] piece rest e = cc
more-some (first ∷ front) piece rest e = cc

-- What is found behind a way of levels is found from its end.
pub lookup-walk : (world : World) (seat : ℕ) (front : List ℕ) (end piece : ℕ) (rest : List ℕ) → walk world seat front ≡ Some end →
    lookup world seat (front ++ piece ∷ rest) ≡ lookup world end (piece ∷ rest)
lookup-walk world seat [] end piece rest way =
    let e : seat ≡ end = cc in
    ap (λ s. lookup world s (piece ∷ rest)) e
lookup-walk world seat (first ∷ front) end piece rest way =
    walk-step (world seat) first (front ++ piece ∷ rest) (λ at. walk world (suc at) front) (λ at. lookup world (suc at) (front ++ piece ∷ rest)) end
    (lookup world end (piece ∷ rest)) (more-some front piece rest) (λ at on. lookup-walk world (suc at) front end piece rest on) way

-- What a step of a way goes through: an entry of a level.
pub record IsStep (node : Node) (piece : ℕ) (on : ℕ → Option ℕ) (end : ℕ) : Type 0 where
  pub map : FinMap word_order ℕ
  pub is : node ≡ level map
  pub found : ℕ
  pub entry : get map piece ≡ Some found
  pub goes : on found ≡ Some end

entry-parts : (map : FinMap word_order ℕ) (piece : ℕ) (on : ℕ → Option ℕ) (end : ℕ) (entry : Option ℕ) → get map piece ≡ entry → step_entry entry on ≡ Some end → IsStep (level map) piece on end
entry-parts map piece on end None e way = absurd (none-some end way)
entry-parts map piece on end (Some found) e way = record { map = map; is = refl; found = found; entry = e; goes = way }

pub step-parts : (node : Node) (piece : ℕ) (on : ℕ → Option ℕ) (end : ℕ) → step_node node piece on ≡ Some end → IsStep node piece on end
step-parts gone piece on end way = absurd (none-some end way)
step-parts (tail held value) piece on end way = absurd (none-some end way)
step-parts (level map) piece on end way = entry-parts map piece on end (get map piece) refl way

-- A step of a way that goes on.
entry-on : (entry : Option ℕ) (on more : ℕ → Option ℕ) (end : ℕ) (found : Option ℕ) → ((at : ℕ) → on at ≡ Some end → more at ≡ found) → step_entry entry on ≡ Some end → step_entry entry more ≡ found
entry-on None on more end found goes way = absurd (none-some end way)
entry-on (Some at) on more end found goes way = goes at way

node-on : (node : Node) (piece : ℕ) (on more : ℕ → Option ℕ) (end : ℕ) (found : Option ℕ) → ((at : ℕ) → on at ≡ Some end → more at ≡ found) → step_node node piece on ≡ Some end →
    step_node node piece more ≡ found
node-on gone piece on more end found goes way = absurd (none-some end way)
node-on (tail held value) piece on more end found goes way = absurd (none-some end way)
node-on (level map) piece on more end found goes way = entry-on (get map piece) on more end found goes way

-- A way that goes on is the way on from its end.
pub walk-append : (world : World) (seat : ℕ) (front more : List ℕ) (end : ℕ) → walk world seat front ≡ Some end → walk world seat (front ++ more) ≡ walk world end more
walk-append world seat [] more end way =
    let e : seat ≡ end = cc in
    ap (λ s. walk world s more) e
walk-append world seat (first ∷ front) more end way =
    node-on (world seat) first (λ at. walk world (suc at) front) (λ at. walk world (suc at) (front ++ more)) end (walk world end more) (λ at on. walk-append world (suc at) front more end on) way

-- One level more.
pub walk-more : (world : World) (seat : ℕ) (front : List ℕ) (end : ℕ) (map : FinMap word_order ℕ) (piece found : ℕ) → walk world seat front ≡ Some end →
    world end ≡ level map → get map piece ≡ Some found → walk world seat (front ++ piece ∷ []) ≡ Some (suc found)
walk-more world seat front end map piece found way is entry =
    walk-append world seat front (piece ∷ []) end way
    ∙ ap (λ node. step_node node piece (λ at. Some (suc at))) is
    ∙ ap (λ o. step_entry o (λ at. Some (suc at))) entry

-- What a level holds is found from its seat.
pub lookup-level : (world : World) (seat : ℕ) (map : FinMap word_order ℕ) (ps : List ℕ) → world seat ≡ level map → lookup world seat ps ≡ look_in world (level map) ps
lookup-level world seat map ps is = lookup-in world seat ps ∙ ap (λ node. look_in world node ps) is

-- A way leads to the seat behind its pieces.
pub walk-behind : (world : World) (behind : ℕ → List ℕ) → IsWorld world behind → (seat : ℕ) (front : List ℕ) (end : ℕ) → AreInner front → walk world seat front ≡ Some end →
    behind end ≡ behind seat ++ front
walk-behind world behind is seat [] end inner way =
    let e : seat ≡ end = cc in
    ap behind (sym e) ∙ sym (append-nil (behind seat))
walk-behind world behind is seat (first ∷ front) end inner way =
    let on = step-parts (world seat) first (λ at. walk world (suc at) front) end way in
    walk-behind world behind is (suc on.found) front end inner.1 on.goes
    ∙ ap (λ place. place ++ front) ((is.levels seat on.map on.is).leads first on.found on.entry inner.0).0
    ∙ append_assoc (behind seat) (first ∷ []) front
