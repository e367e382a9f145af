use Rattle.std.proofs.Common.{length, not, sym, ap, ◌∙◌}
use Rattle.judy_shelf.specs.declared.fault.LoadFault.TheVariants.{BadName}
use Rattle.judy_shelf.proofs.HeadLemmas.{named, new_is, name_is_new, name_is_taken}
use Rattle.judy_shelf.proofs.head.read_name_text.Goals as goal

pub returns-then-is_some-clause-read : goal.returns-then-is_some-clause-read
returns-then-is_some-clause-read g c =
    let text = c.read_bytes.new.room in
    let name = c.in_ok-name.name in
    let is = named text name c.new.result BadName c.new.ensures c.in_ok-name.ensures.value in
    name_is_taken c.args.shelf.now (length c.args.text.now) text name _ _ c.in_ok-read_bytes.ensures.read is.0 is.1
    (new_is c.args.shelf.now name c.get.result c.get.ensures ∙ ap not (sym c.if-is_some.ensures))

pub returns-clause-read : goal.returns-clause-read
returns-clause-read g c =
    let text = c.read_bytes.new.room in
    let name = c.in_ok-name.name in
    let is = named text name c.new.result BadName c.new.ensures c.in_ok-name.ensures.value in
    name_is_new c.args.shelf.now (length c.args.text.now) text name _ _ c.in_ok-read_bytes.ensures.read is.0 is.1
    (new_is c.args.shelf.now name c.get.result c.get.ensures ∙ ap not (sym c.if-is_some.ensures))
