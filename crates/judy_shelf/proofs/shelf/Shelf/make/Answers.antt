-- A name that no array has comes last in the table.
use Rattle.std.proofs.Common.{◌≡◌, ◌∙◌, sym, refl, false, Option, Some, None, Bor}
use Rattle.std.specs.Prelude.{bytes_eq, is_some, option_copied}
use Rattle.indexmap.proofs.CallerLemmas.{insert_entry-new}
use Rattle.judy_shelf.proofs.shelf.Shelf.make.Goals as goal

not_there : {A : Type 0} (found : Option (Bor A)) (kept : Option A) → is_some found ≡ false → option_copied found ≡ kept → kept ≡ None
not_there None kept none same = sym same
not_there (Some array) kept none same = cc

pub returns-in-Ok-clause-made : goal.returns-in-Ok-clause-made
returns-in-Ok-clause-made c =
    c.in-Ok.ensures.entries
    ∙ insert_entry-new bytes_eq c.self.inside.arrays c.args.name c.new_array.result (rw c.self.view_is (not_there c.get.result _ (sym c.is_some.ensures ∙ c.if-is_some.false) c.get.ensures))
    ∙ rw (c.self.view_is, c.new_array.ensures) refl
