use Rattle.std.proofs.Common.{◌≡◌, ◌≤◌, ◌*◌, take}
use Rattle.std.specs.List.{flat_map}
use Rattle.arrayvec.specs.ArrayVec.{array_vec_len}
use Rattle.judy_shelf.proofs.page.page_bytes.Given as goal

-- the entries passed are there, in sixteen bytes each at most
abbrev pub invariant-entries : goal.invariant-entries
invariant-entries g l = (l.bytes.items ≡ flat_map g.E.Written.text (take l.entry-index l.page)) × (array_vec_len l.bytes ≤ 16 * l.entry-index)
