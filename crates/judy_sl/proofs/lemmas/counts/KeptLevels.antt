-- Levels that stay levels, and the pieces that lead to each.
use Rattle.std.proofs.Common.{◌≡◌, ◌≢◌, ℕ, zero, suc, ◌≤◌, List, [], ◌∷◌, ◌++◌, length, Some, refl, sym, ap, ◌∙◌, arith}
use Rattle.std.proofs.lemmas.List.{length-append}
use Rattle.judy_sl.specs.Pieces.{AreInner}
use Rattle.judy_sl.specs.World.{World, gone, level, walk, step_node, step_entry}
use Rattle.judy_sl.specs.WorldInvariants.{IsWorld, IsLed, AllLed}
use Rattle.judy_sl.proofs.lemmas.pieces.Ways.{step-parts, walk-more, walk-behind}
use Rattle.judy_sl.proofs.lemmas.pieces.OnWay.{inner-more}
use Rattle.judy_sl.proofs.lemmas.seats.Led.{KeepsEntries}

-- Inner pieces lead to a seat, through levels.
pub record IsReached (world : World) (seat : ℕ) : Type 0 where
  pub front : List ℕ
  pub inner : AreInner front
  pub way : walk world 0 front ≡ Some seat

module _ (world : World) (behind : ℕ → List ℕ) (is : IsWorld world behind) where
  -- They are the pieces behind it,
  pub reached-behind : (seat : ℕ) (reached : IsReached world seat) → behind seat ≡ reached.front
  reached-behind seat reached = walk-behind world behind is 0 reached.front seat reached.inner reached.way ∙ ap (λ place. place ++ reached.front) is.first

  -- so there is one way alone.
  pub reached-once : (seat : ℕ) (one other : IsReached world seat) → one.front ≡ other.front
  reached-once seat one other = sym (reached-behind seat one) ∙ reached-behind seat other

  -- The piece of an entry leads on from its level.
  reached-more : (at : ℕ) (led : IsLed world at) → IsReached world led.seat → IsReached world (suc at)
  reached-more at led reached = record {
    front = reached.front ++ led.piece ∷ [];
    inner = inner-more reached.front led.piece reached.inner led.inner;
    way = walk-more world 0 reached.front led.seat led.map led.piece at reached.way led.is_level led.entry;
  }

  -- One step above a child fewer pieces are behind.
  shorter : (at : ℕ) (led : IsLed world at) → length (behind (suc at)) ≡ suc (length (behind led.seat))
  shorter at led =
      let l = length-append (behind led.seat) (led.piece ∷ []) in
      let e = ap (λ (ps : List ℕ). length ps) ((is.levels led.seat led.map led.is_level).leads led.piece at led.entry led.inner).0 in
      omega (arith, l, e)

  module _ (all : AllLed world) where
    -- By how many pieces are behind them.
    by_length : (most seat : ℕ) → length (behind seat) ≤ most → world seat ≢ gone → IsReached world seat
    by_length most zero short there = record { front = []; inner = tt; way = refl }
    by_length zero (suc at) short there = absurd (let s = shorter at (all at there) in omega (arith, s))
    by_length (suc most) (suc at) short there =
        let led = all at there in
        reached-more at led (by_length most led.seat (let s = shorter at led in omega (arith, s)) (λ none. let g : gone ≡ level led.map = sym none ∙ led.is_level in cc))

    -- To each child that is there they lead.
    pub all-reached : (at : ℕ) → world (suc at) ≢ gone → IsReached world (suc at)
    all-reached at there = by_length (length (behind (suc at))) (suc at) (omega arith) there

-- Where levels stay levels, with their entries that lead on, ways stay.
module _ (world other : World) (keeps : (seat : ℕ) → KeepsEntries (world seat) (other seat)) where
  pub walk-keeps : (seat : ℕ) (front : List ℕ) (end : ℕ) → AreInner front → walk world seat front ≡ Some end → walk other seat front ≡ Some end
  walk-keeps seat [] end inner way = way
  walk-keeps seat (piece ∷ front) end inner way =
      let step = step-parts (world seat) piece (λ found. walk world (suc found) front) end way in
      let kept = keeps seat step.map step.is in
      ap (λ node. step_node node piece (λ found. walk other (suc found) front)) kept.1
      ∙ ap (λ o. step_entry o (λ found. walk other (suc found) front)) (kept.2 piece step.found inner.0 step.entry)
      ∙ walk-keeps (suc step.found) front end inner.1 step.goes

  abbrev pub reached-keeps : (seat : ℕ) → IsReached world seat → IsReached other seat
  reached-keeps seat reached = record { front = reached.front; inner = reached.inner; way = walk-keeps 0 reached.front seat reached.inner reached.way }
