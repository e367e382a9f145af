use Rattle.std.proofs.Common.{refl, sym, subst}
use Rattle.judy_hs.specs.Groups.{long}
use Rattle.judy_hs.specs.GroupPlaces.{group_of}
use Rattle.judy_hs.specs.Relaid.{IsRelaidGroup}
use Rattle.judy_hs.specs.declared.group.GroupPlace.{GroupPlace}
use Rattle.judy_hs.proofs.group.GroupPlace.shrink.Goals as goal

pub returns-in-Long-clause-keys : goal.returns-in-Long-clause-keys
returns-in-Long-clause-keys c =
    subst (λ (place : GroupPlace). IsRelaidGroup (group_of place) (long c.shrink-in-Long.new.self)) (sym c.in-Long.is) (c.shrink-in-Long.new.self, refl, c.shrink-in-Long.ensures)
