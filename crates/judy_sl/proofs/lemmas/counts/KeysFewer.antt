-- Behind a child stand no more keys than behind the level whose entry leads to it.
use Rattle.std.proofs.Common.{◌≡◌, ℕ, suc, ◌%◌, ◌≤◌, true, false, cond, List, [], ◌∷◌, ◌++◌, map, length, Some, refl, sym, ap, ◌∙◌, arith}
use Rattle.std.proofs.lemmas.Bool.{ne_eqb}
use Rattle.std.proofs.lemmas.List.{length-append, length-map}
use Rattle.std.proofs.lemmas.List.Concat.{flat_map-cons}
use Rattle.std.proofs.lemmas.Option.{none-some}
use Rattle.std.specs.Ordering.{eq_by_cmp}
use Rattle.std.specs.List.{flat_map}
use Rattle.std.specs.FinMap.{FinMap, nat_cmp-IsAntisymmetric, entries, find, get, len-entries, get-entries}
use Rattle.judy_model.specs.Keys.{word_order}
use Rattle.judy_model.proofs.lemmas.orders.Orders.{same_from_tie}
use Rattle.judy_sl.specs.Pieces.{IsInner, piece_bytes}
use Rattle.judy_sl.specs.World.{World, level}
use Rattle.judy_sl.specs.WorldInvariants.{IsWorld}
use Rattle.judy_sl.specs.Behind.{map_behind, entry_keys}
use Rattle.judy_sl.specs.Counted.{keys_behind}
use Rattle.judy_sl.proofs.lemmas.seats.Behind.{entries_behind}

-- What is made of one entry is no longer than what is made of all.
found-within : (f : ℕ × ℕ → List (List ℕ × ℕ)) (pairs : List (ℕ × ℕ)) (piece at : ℕ) → find word_order piece pairs ≡ Some at → length (f (piece, at)) ≤ length (flat_map f pairs)
found-within f [] piece at found = absurd (none-some at found)
found-within f (pair ∷ rest) piece at found =
    let long = ap length (flat_map-cons f pair rest) ∙ length-append (f pair) (flat_map f rest) in
    elim (eq_by_cmp word_order piece pair.0) as (λ b. eq_by_cmp word_order piece pair.0 ≡ b → cond b (Some pair.1) (find word_order piece rest) ≡ Some at →
    length (f (piece, at)) ≤ length (flat_map f (pair ∷ rest))) [
      | true ↦ λ tied is.
          let key = same_from_tie nat_cmp-IsAntisymmetric piece pair.0 tied in
          let value : pair.1 ≡ at = cc in
          let same : length (f (piece, at)) ≡ length (f pair) = ap (λ k. length (f (k, at))) key ∙ ap (λ v. length (f (pair.0, v))) (sym value) in
          omega (arith, long, same)
      | false ↦ λ apart is.
          let less = found-within f rest piece at is in
          omega (arith, long, less)
    ] refl found

inner-length : (world : World) (piece at : ℕ) → IsInner piece → length (entry_keys world (piece, at)) ≡ keys_behind world (suc at)
inner-length world piece at inner =
    ap (λ b. length {A = List ℕ × ℕ} (cond b ((piece_bytes piece, at) ∷ []) (map (λ (pair : List ℕ × ℕ). (piece_bytes piece ++ pair.0, pair.1)) (entries (map_behind world (suc at))))))
    (ne_eqb (piece % 256) 0 inner)
    ∙ length-map (entries (map_behind world (suc at))) (λ (pair : List ℕ × ℕ). (piece_bytes piece ++ pair.0, pair.1))
    ∙ sym (len-entries (map_behind world (suc at)))

-- The keys behind an entry's child are some of those behind the level.
pub fewer-behind : (world : World) (behind : ℕ → List ℕ) → IsWorld world behind → (seat : ℕ) (words : FinMap word_order ℕ) → world seat ≡ level words → (piece at : ℕ) →
    get words piece ≡ Some at → IsInner piece → keys_behind world (suc at) ≤ keys_behind world seat
fewer-behind world behind is seat words here piece at entry inner =
    let within = found-within (entry_keys world) (entries words) piece at (sym (get-entries words piece) ∙ entry) in
    let one = inner-length world piece at inner in
    let all = len-entries (map_behind world seat) ∙ ap length (entries_behind is seat words here) in
    omega (arith, within, one, all)
