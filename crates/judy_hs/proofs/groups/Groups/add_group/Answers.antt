use Rattle.std.proofs.Common.{sym, ◌∙◌}
use Rattle.judy_hs.proofs.GroupLemmas.{keyed-put, one-some, groups-put}
use Rattle.judy_hs.proofs.groups.Groups.add_group.Goals as goal

pub returns-clause-added : goal.returns-clause-added
returns-clause-added c =
    rw (← c.self.view_is, c.put-2.ensures, c.free_place.ensures.same, c.in_ok-put.ensures.put) (keyed-put _ c.self.inside.groups.items c.in_ok-group.group
    c.in_ok-made.made _ c.in_ok-made.ensures.group)

pub invariant_of-self-2 : goal.invariant_of-self-2
invariant_of-self-2 c =
    rw (c.put-2.ensures, c.free_place.ensures.same) (
    groups-put c.self.inside.groups.items c.self.inside.free c.self.invariant c.in_ok-group.group c.in_ok-group.next c.in_ok-made.made c.in_ok-group.ensures.next
    (λ gone. one-some c.args.part c.args.key.now (sym c.in_ok-made.ensures.group ∙ gone))
    )
