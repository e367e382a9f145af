use Rattle.std.proofs.Common.{◌≡◌, set, ap, subst, sym, ◌∙◌, arith}
use Rattle.judy_records.specs.Spots.{RecordList, free}
use Rattle.judy_records.specs.PageSpots.{IsFull}
use Rattle.judy_records.specs.Inside.{page_at, spots_to, spot_of, list_of, ArePages}
use Rattle.judy_records.proofs.PagesChange.{full-kind, roomy-kind, taken-are, taken-spots}
use Rattle.judy_records.proofs.ListHolds.{per, some, shift-fits, seen-there, seen-less, seen-start, at-held, place-is}
use Rattle.judy_records.proofs.records.Records.take_out.Goals as goal

pub locate-number-requires : goal.locate-number-requires
locate-number-requires c = shift-fits c.self.inside c.self.invariant

pub places_of-places-requires-clause-shift : goal.places_of-places-requires-clause-shift
places_of-places-requires-clause-shift c = shift-fits c.self.inside c.self.invariant

pub places_of-places-requires-clause-within : goal.places_of-places-requires-clause-within
places_of-places-requires-clause-within c = seen-start c.self.inside c.self.invariant c.self.view_is c.args.place c.requires c.locate-number.ensures

pub take_out_of-requires-clause-within : goal.take_out_of-requires-clause-within
take_out_of-requires-clause-within c = seen-there c.self.inside c.self.invariant c.self.view_is c.args.place c.requires c.locate-number.ensures

pub take_out_of-requires-clause-held : goal.take_out_of-requires-clause-held
take_out_of-requires-clause-held c = at-held c.self.inside c.self.invariant c.self.view_is c.args.place c.requires c.locate-number.ensures

pub take_out_of-requires-clause-is_full : goal.take_out_of-requires-clause-is_full
take_out_of-requires-clause-is_full c = λ full.
    let list = c.self.inside in
    let are = c.self.invariant in
    full-kind list.size (per list are) list.end (some list are) list.pages.items list.turns are.pages c.locate-number.result.0
    (seen-there list are c.self.view_is c.args.place c.requires c.locate-number.ensures) c.locate-number.result.1
    (seen-less list are c.self.view_is c.args.place c.requires c.locate-number.ensures) (at-held list are c.self.view_is c.args.place c.requires c.locate-number.ensures)
    (subst (λ n. IsFull n (page_at list.pages.items c.locate-number.result.0)) c.places_of-places.ensures full)

pub take_out_of-requires-clause-is_roomy : goal.take_out_of-requires-clause-is_roomy
take_out_of-requires-clause-is_roomy c = λ not.
    let list = c.self.inside in
    let are = c.self.invariant in
    roomy-kind list.size (per list are) list.end (some list are) list.pages.items list.turns are.pages c.locate-number.result.0
    (seen-there list are c.self.view_is c.args.place c.requires c.locate-number.ensures) c.locate-number.result.1
    (seen-less list are c.self.view_is c.args.place c.requires c.locate-number.ensures) (at-held list are c.self.view_is c.args.place c.requires c.locate-number.ensures)
    (λ full. not (subst (λ n. IsFull n (page_at list.pages.items c.locate-number.result.0)) (sym c.places_of-places.ensures) full))

pub invariant_of-self : goal.invariant_of-self
invariant_of-self c =
    let list = c.self.inside in
    let are = c.self.invariant in
    let now = taken-are list.size (per list are) list.end (some list are) list.pages.items list.turns are.pages c.locate-number.result.0
    (seen-there list are c.self.view_is c.args.place c.requires c.locate-number.ensures) c.locate-number.result.1
    (seen-less list are c.self.view_is c.args.place c.requires c.locate-number.ensures) (at-held list are c.self.view_is c.args.place c.requires c.locate-number.ensures)
    (page_at c.take_out_of.new.pages.items c.locate-number.result.0) c.take_out_of.new.turns c.take_out_of.ensures.memory c.take_out_of.ensures.taken in
    record {
      pages = subst (λ pages. ArePages list.size (per list are) list.end pages c.take_out_of.new.turns) (sym c.take_out_of.ensures.pages) now;
      shift_is = are.shift_is;
      size_within = are.size_within;
      most = are.most;
    }

pub returns-clause-spots : goal.returns-clause-spots
returns-clause-spots c =
    let list = c.self.inside in
    let are = c.self.invariant in
    ap (λ pages. spots_to list.end (spot_of (per list are) pages)) c.take_out_of.ensures.pages
    ∙ taken-spots list.size (per list are) list.end (some list are) list.pages.items list.turns are.pages c.locate-number.result.0
    (seen-there list are c.self.view_is c.args.place c.requires c.locate-number.ensures) c.locate-number.result.1
    (seen-less list are c.self.view_is c.args.place c.requires c.locate-number.ensures) (at-held list are c.self.view_is c.args.place c.requires c.locate-number.ensures)
    (page_at c.take_out_of.new.pages.items c.locate-number.result.0) c.take_out_of.new.turns c.take_out_of.ensures.memory c.take_out_of.ensures.taken
    ∙ ap (λ n. set (list_of list).spots n (free 0)) (place-is list are c.self.view_is c.args.place c.requires c.locate-number.ensures)
    ∙ ap (λ (seen : RecordList). set seen.spots c.args.place (free 0)) c.self.view_is
