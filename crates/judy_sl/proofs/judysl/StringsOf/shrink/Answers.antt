use Rattle.judy_sl.proofs.lemmas.moves.Settled.{settled-then, settled-strings, settled-firsts, settled-listed}
use Rattle.judy_sl.proofs.judysl.StringsOf.shrink.Goals as goal

pub invariant_of-self : goal.invariant_of-self
invariant_of-self g c =
    let before = c.self.inside.arena in
    let after = c.trim_levels.new.self in
    let settled = settled-then before c.settle_all.new.self after c.settle_all.ensures c.trim_levels.ensures in (
      settled-strings before after settled c.self.inside.limit c.self.inside.count c.self.invariant.0,
      settled.kept.counted,
      settled-firsts before after settled c.self.inside.firsts c.self.invariant.2,
      settled-listed before after settled c.self.inside.lists c.self.invariant.3,
    )
