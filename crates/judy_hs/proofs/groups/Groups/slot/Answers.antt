use Rattle.std.proofs.Common.{ap, ◌∙◌}
use Rattle.std.specs.Option.{ghost_name_of}
use borrow.Follows.Closed.{read_of}
use Rattle.judy_hs.specs.Groups.{Group, value_inside}
use Rattle.judy_hs.proofs.GroupLemmas.{within-places, held-is, keyed-written, keyed-back, groups-with, groups-back}
use Rattle.judy_hs.proofs.groups.Groups.slot.Goals as goal

pub returns : goal.returns
returns c =
    let within = within-places c.self.inside.lengths c.self.inside.groups.items c.args.self.now c.args.spot.group c.self.view_is c.requires.within in
    let written = keyed-written c.self.inside.lengths c.self.inside.groups.items c.args.spot.group c.index_mut-group.result.now within c.index_mut-group.ensures.value
    c.args.spot.inside c.args.key.now in
    let back = keyed-back c.self.inside.lengths c.self.inside.groups.items c.args.spot.group c.index_mut-group.result.now within c.index_mut-group.ensures.value in
    rw (← c.self.view_is) (
      λ t. read_of (ghost_name_of c.slot.result) (λ w. written w t) (back t),
      record {
        writes_back = tt;
        value =
            c.slot.ensures.value ∙ ap (λ (group : Group). value_inside group c.args.spot.inside c.args.key.now)
            (held-is c.self.inside.lengths c.self.inside.groups.items c.args.spot.group c.index_mut-group.result.now within c.index_mut-group.ensures.value);
      },
    )

pub invariant_of-self-lent : goal.invariant_of-self-lent
invariant_of-self-lent c _ = (
  λ w. groups-with c.self.inside.groups.items c.self.inside.free c.self.invariant c.args.spot.group c.index_mut-group.result.now c.index_mut-group.ensures.value c.args.spot.inside c.args.key.now w,
  groups-back c.self.inside.groups.items c.self.inside.free c.self.invariant c.args.spot.group c.index_mut-group.result.now c.index_mut-group.ensures.value,
)
