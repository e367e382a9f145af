-- A name that no array has comes last in the table.
use Rattle.std.proofs.Common.{◌∙◌, refl}
use Rattle.std.specs.Prelude.{bytes_eq}
use Rattle.indexmap.proofs.CallerLemmas.{insert_entry-new}
use Rattle.judy_shelf.proofs.shelf.Shelf.add.Goals as goal

pub returns-in-Ok-clause-added : goal.returns-in-Ok-clause-added
returns-in-Ok-clause-added c =
    c.in-Ok.ensures.entries ∙ insert_entry-new bytes_eq c.self.inside.arrays c.args.name c.args.array (rw c.self.view_is c.requires.new) ∙ rw c.self.view_is refl
