-- `Map::slot`: where the handle is null there is no key, and so no slot.
use Rattle.std.proofs.Common.{refl, sym, true≢false}
use Rattle.judy_c.proofs.WordHandles.{nothing_held}
use Rattle.judy_c.proofs.map.Map.slot.Goals as goal

pub returns-in-None : goal.returns-in-None
returns-in-None c = ((refl, (λ w is. absurd (true≢false (sym is))), refl), record { writes_back = tt; value = sym (nothing_held _ c.args.key c.in-None.ensures.null) })
