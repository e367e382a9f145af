use Rattle.judy_shelf.proofs.StoreLemmas.{IsStore-read, past_all}
use Rattle.judy_shelf.proofs.shelf.Shelf.store_law.Goals as goal

pub returns : goal.returns
returns c = IsStore-read c.args.self.now c.arrays.place c.shelf_law.ensures c.arrays.invariant.read (past_all c.args.self.now c.arrays.place c.in_default.ensures.entry)
