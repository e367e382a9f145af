use Rattle.std.proofs.Common.{◌≡◌, ◌∙◌, get_or, set, refl, ap, arith}
use Rattle.judy_hs.specs.GroupPlaces.{groups_of}
use Rattle.judy_hs.specs.declared.group.GroupPlace.{GroupPlace}
use Rattle.judy_hs.proofs.RelaidLemmas.{are-same, are-on, are-set, links-set}
use Rattle.judy_hs.proofs.groups.shrink_all.Goals as goal

pub loop-place-init : goal.loop-place-init
loop-place-init c = record { keys = are-same (groups_of c.args.groups.now); links = refl }

pub loop-place-preserved : goal.loop-place-preserved
loop-place-preserved c =
    let places = c.loop-place.groups in
    let at = c.loop-place.place in
    let held : GroupPlace = get_or places at c.index-groups-place.result in
    let is : held ≡ get_or places at held = ap (get_or places at) c.index-groups-place.is in
    record {
      keys = are-on (groups_of c.args.groups.now) (groups_of places) (groups_of (set places at c.shrink.new.self)) c.loop-place.invariant.keys
          (are-set places at held c.shrink.new.self is (omega (arith, c.loop-place-test.true, c.loop-place.auto.place-end, c.loop-place.auto.groups)) c.shrink.ensures.keys);
      links = links-set places at held c.shrink.new.self is c.shrink.ensures.links ∙ c.loop-place.invariant.links;
    }
