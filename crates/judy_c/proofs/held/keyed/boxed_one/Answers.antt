-- `boxed_one`: where there is no memory for the box, the array without keys took the key.
use Rattle.std.proofs.Common.{refl}
use Rattle.judy_c.specs.NullArrays.{empty_keyed}
use Rattle.judy_c.proofs.StringHandles.{nothing_held, room_in_null}
use Rattle.judy_c.proofs.held.keyed.boxed_one.Goals as goal

pub returns-clause-refused : goal.returns-clause-refused
returns-clause-refused g c = (c.in_ok-put_in.ensures.made.0, nothing_held empty_keyed c.args.key.now refl, room_in_null empty_keyed c.args.key.now refl)
