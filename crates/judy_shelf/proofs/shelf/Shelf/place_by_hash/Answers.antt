use Rattle.std.proofs.Common.{◌∙◌}
use Rattle.std.specs.Prelude.{bytes_eq}
use Rattle.judy_shelf.proofs.PlaceLemmas.{place_none}
use Rattle.judy_shelf.proofs.shelf.Shelf.place_by_hash.Goals as goal

pub returns-in-None : goal.returns-in-None
returns-in-None c =
    let none = c.in-None.ensures.index in
    c.len.ensures.count ∙ place_none (bytes_eq c.args.name.now) c.args.self.now (rw (← c.self.view_is) none)
