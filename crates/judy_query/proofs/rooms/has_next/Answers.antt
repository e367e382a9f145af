use Rattle.std.proofs.Common.{◌^◌, arith}
use Rattle.judy_query.proofs.BranchRooms.{greatest, less_by_one}
use Rattle.judy_query.proofs.rooms.has_next.Goals as goal

pub returns : goal.returns
returns c =
    let most = greatest c.args.bytes c.requires in
    let same = c.without_low.ensures in
    less_by_one c.args.number c.without_low.result (256 ^ c.args.bytes) (omega arith)
