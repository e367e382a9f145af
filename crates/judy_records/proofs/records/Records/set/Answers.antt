use Rattle.std.proofs.Common.{◌≡◌, ap, subst, sym, ◌∙◌, arith}
use Rattle.std.specs.Vec.{with_item}
use Rattle.judy_records.specs.Texts.{words_of}
use Rattle.judy_records.specs.Spots.{RecordList, held}
use Rattle.judy_records.specs.PageSpots.{PageList}
use Rattle.judy_records.specs.Inside.{list_of, AreRecords}
use Rattle.judy_records.proofs.ListHolds.{shift-fits, seen-there, seen-held, seen-size, replaced-are, replaced-list}
use Rattle.judy_records.proofs.records.Records.set.Goals as goal

pub locate-at-requires : goal.locate-at-requires
locate-at-requires c = shift-fits c.self.inside c.self.invariant

pub index_mut-requires : goal.index_mut-requires
index_mut-requires c = omega (arith, seen-there c.self.inside c.self.invariant c.self.view_is c.args.place c.requires.is_held c.locate-at.ensures, c.self.inside.pages.ok)

pub set-requires-clause-is_held : goal.set-requires-clause-is_held
set-requires-clause-is_held c =
    seen-held c.self.inside c.self.invariant c.self.view_is c.args.place c.requires.is_held c.locate-at.ensures c.index_mut.result.now c.index_mut.ensures.value

pub set-requires-clause-fits : goal.set-requires-clause-fits
set-requires-clause-fits c =
    c.requires.fits ∙ ap (λ (list : RecordList). list.size) (sym c.self.view_is)
    ∙ sym (seen-size c.self.inside c.self.invariant c.self.view_is c.args.place c.requires.is_held c.locate-at.ensures c.index_mut.result.now c.index_mut.ensures.value)

pub invariant_of-self : goal.invariant_of-self
invariant_of-self c =
    subst (λ (page : PageList). AreRecords (record c.self.inside { pages = with_item c.self.inside.pages c.locate-at.result.0 page })) (sym c.set.ensures)
    (replaced-are c.self.inside c.self.invariant c.self.view_is c.args.place c.requires.is_held c.locate-at.ensures c.index_mut.result.now c.index_mut.ensures.value
    (held c.args.value (words_of c.args.bytes.now)) tt)

pub returns : goal.returns
returns c =
    ap (λ (page : PageList). list_of (record c.self.inside { pages = with_item c.self.inside.pages c.locate-at.result.0 page })) c.set.ensures
    ∙ replaced-list c.self.inside c.self.invariant c.self.view_is c.args.place c.requires.is_held c.locate-at.ensures c.index_mut.result.now c.index_mut.ensures.value
    (held c.args.value (words_of c.args.bytes.now)) tt
