use Rattle.std.proofs.Common.{ap, refl, sym, ◌∙◌, arith}
use Rattle.judy_records.specs.Spots.{value_of, text_of, held}
use Rattle.judy_records.specs.PageSpots.{spot_in}
use Rattle.judy_records.proofs.ListHolds.{shift-fits, seen-there, seen-held, seen-spot, replaced-are, valued-list}
use Rattle.judy_records.proofs.records.Records.slot.Goals as goal

pub locate-at-requires : goal.locate-at-requires
locate-at-requires c = shift-fits c.self.inside c.self.invariant

pub index_mut-requires : goal.index_mut-requires
index_mut-requires c = omega (arith, seen-there c.self.inside c.self.invariant c.self.view_is c.args.place c.requires c.locate-at.ensures, c.self.inside.pages.ok)

pub slot-requires : goal.slot-requires
slot-requires c = seen-held c.self.inside c.self.invariant c.self.view_is c.args.place c.requires c.locate-at.ensures c.index_mut.result.now c.index_mut.ensures.value

pub invariant_of-self-lent : goal.invariant_of-self-lent
invariant_of-self-lent c =
    λ w. replaced-are c.self.inside c.self.invariant c.self.view_is c.args.place c.requires c.locate-at.ensures c.index_mut.result.now c.index_mut.ensures.value
    (held w (text_of (spot_in c.index_mut.result.now c.locate-at.result.1))) tt

pub returns : goal.returns
returns c = (
  (refl, λ w. valued-list c.self.inside c.self.invariant c.self.view_is c.args.place c.requires c.locate-at.ensures c.index_mut.result.now c.index_mut.ensures.value w),
  record {
    writes_back = tt;
    value = c.slot.ensures.value ∙ ap value_of (seen-spot c.self.inside c.self.invariant c.self.view_is c.args.place c.requires c.locate-at.ensures c.index_mut.result.now c.index_mut.ensures.value);
  },
)
