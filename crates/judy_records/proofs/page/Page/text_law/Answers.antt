use Rattle.std.proofs.Common.{◌+◌, ◌*◌, length, drop, ap, sym, ◌∙◌, arith}
use Rattle.std.proofs.lemmas.List.{length-drop, length-take-le}
use Rattle.judy_records.specs.Spots.{text_of}
use Rattle.judy_records.specs.PageSpots.{PageList}
use Rattle.judy_records.proofs.PageStands.{seen-long, seen-spot}
use Rattle.judy_records.proofs.page.Page.text_law.Goals as goal

pub returns : goal.returns
returns c =
    let page = c.self.inside in
    let start = c.args.place * (page.size + 1) in
    let long = seen-long page c.self.invariant c.self.view_is c.args.place c.requires in
    let one = length-drop start page.words.items in
    let two = length-drop 1 (drop start page.words.items) in
    ap (λ spot. length (text_of spot)) (sym (seen-spot page c.self.invariant c.self.view_is c.args.place c.requires))
    ∙ length-take-le page.size (drop 1 (drop start page.words.items)) (omega (arith, long, one, two))
    ∙ ap (λ (page : PageList). page.size) c.self.view_is
