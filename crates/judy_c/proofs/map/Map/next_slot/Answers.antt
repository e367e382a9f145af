-- `Map::next_slot`: where the handle is null there is no key, and so no slot.
use Rattle.std.proofs.Common.{refl, sym, ap, true≢false, unwrap_or, option_and_then}
use Rattle.std.specs.FinMap as map
use Rattle.judy_c.specs.Maps.{map_of}
use Rattle.judy_c.proofs.WordHandles.{nothing_next}
use Rattle.judy_c.proofs.map.Map.next_slot.Goals as goal

pub returns-in-None : goal.returns-in-None
returns-in-None c =
    let none = nothing_next _ c.args.from c.in-None.ensures.null in (
      (refl, (λ w is. absurd (true≢false (sym is))), refl),
      record { writes_back = tt; key = ap (λ found. unwrap_or found c.args.key.now) (sym none); value = ap (option_and_then (map.get (map_of c.args.self.now))) (sym none) },
    )
