use Rattle.std.proofs.Common.{◌^◌, [], ◌∷◌, ap}
use Rattle.judy_leaf.specs.KeyLists.{keys_of}
use Rattle.judy_leaf.specs.Packing.{keys_in}
use Rattle.judy_leaf.proofs.ImmLists.{imm_keys}
use Rattle.judy_leaf.proofs.AbsentRuns.{first_among}
use Rattle.judy_leaf.proofs.imm.ImmOf.absent_at_or_after.Goals as goal

pub returns : goal.returns
returns g c =
    let same = imm_keys g.V.Words.WORDS c.self.inside.width c.self.inside.count c.self.inside.keys c.self.inside.value c.self.invariant c.args.self.now c.self.view_is c.from.result c.from.ensures in
    first_among (256 ^ c.self.inside.width) (256 ^ c.args.self.now.width) (keys_in c.self.inside.width c.from.result (c.self.inside.keys ∷ []))
    (keys_of c.args.self.now.pairs) c.args.number c.absent_from.result (ap (λ l. 256 ^ l.width) c.self.view_is) same c.absent_from.ensures
