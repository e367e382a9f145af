use Rattle.std.proofs.Common.{ap, sym, ◌∙◌, arith}
use Rattle.judy_records.specs.Texts.{words_of}
use Rattle.judy_records.specs.Spots.{held}
use Rattle.judy_records.specs.PageSpots.{PageList, with_spot_in}
use Rattle.judy_records.proofs.PageStands.{seen-held, seen-long, replaced-list, replaced-are}
use Rattle.judy_records.proofs.page.Page.set.Goals as goal

pub overflow_mul-start : goal.overflow_mul-start
overflow_mul-start c =
    omega (arith, seen-long c.self.inside c.self.invariant c.self.view_is c.args.place c.requires.is_held, c.self.inside.words.ok, c.self.inside.words.small)

pub write_record-requires-clause-within : goal.write_record-requires-clause-within
write_record-requires-clause-within c =
    omega (arith, seen-long c.self.inside c.self.invariant c.self.view_is c.args.place c.requires.is_held, c.self.inside.words.ok)

pub write_record-requires-clause-fits : goal.write_record-requires-clause-fits
write_record-requires-clause-fits c = c.requires.fits ∙ ap (λ (page : PageList). page.size) (sym c.self.view_is)

pub invariant_of-self : goal.invariant_of-self
invariant_of-self c =
    let is = seen-held c.self.inside c.self.invariant c.self.view_is c.args.place c.requires.is_held in
    let size = c.requires.fits ∙ ap (λ (page : PageList). page.size) (sym c.self.view_is) in
    replaced-are c.self.inside c.self.invariant c.args.value c.args.bytes.now size c.args.place is c.write_record.new.words c.write_record.ensures.words c.write_record.ensures.capacity

pub returns : goal.returns
returns c =
    let is = seen-held c.self.inside c.self.invariant c.self.view_is c.args.place c.requires.is_held in
    let size = c.requires.fits ∙ ap (λ (page : PageList). page.size) (sym c.self.view_is) in
    replaced-list c.self.inside c.self.invariant c.args.value c.args.bytes.now size c.args.place is c.write_record.new.words c.write_record.ensures.words c.write_record.ensures.capacity
    ∙ ap (λ page. with_spot_in page c.args.place (held c.args.value (words_of c.args.bytes.now))) c.self.view_is
