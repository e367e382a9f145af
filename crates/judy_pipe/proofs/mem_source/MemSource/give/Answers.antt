use Rattle.std.proofs.Common.{◌≡◌, ◌+◌, ◌-◌, ◌≤◌, length, take, drop, arith, ap, ◌∙◌}
use Rattle.std.proofs.lemmas.List.{length-take-le}
use Rattle.judy_pipe.proofs.Moves.{given-next}
use Rattle.judy_pipe.proofs.mem_source.MemSource.give.Goals as goal

pub returns-clause-moved : goal.returns-clause-moved
returns-clause-moved c =
    let given = c.args.self.now.given in
    let count = c.reach-count.result in
    let room = c.args.room.now in
    let span : given + count - given ≡ count = omega arith in
    let is : c.copy_from_slice.new.self ≡ take count (drop given c.args.self.now.bytes.now) =
    c.copy_from_slice.ensures.after ∙ ap (λ n. take n (drop given c.args.self.now.bytes.now)) span in
    let fits : count ≤ length room = omega arith in
    let len : length c.copy_from_slice.new.self ≡ count = c.copy_from_slice.ensures.len ∙ length-take-le count room fits in
    given-next c.args.self.now.bytes.now c.copy_from_slice.new.self (drop count room) given count is len
