use Rattle.std.proofs.Common.{◌≡◌, ◌+◌, ◌-◌, ◌≤◌, ◌++◌, ◌∷◌, length, take, drop, Some, arith, ap, sym, ◌∙◌, append_assoc}
use Rattle.std.proofs.lemmas.List.{length-take-le}
use Rattle.judy_pipe.proofs.Moves.{given-next}
use Rattle.judy_saved.proofs.source.SliceSourceSource.read.Goals as goal

pub returns-clause-given : goal.returns-clause-given
returns-clause-given c =
    let bytes = c.args.self.now.bytes.now in
    let given = c.args.self.now.given in
    let count = c.min-count.result in
    let room = c.args.room.now in
    let span : given + count - given ≡ count = omega arith in
    let is : c.copy_from_slice.new.self ≡ take count (drop given bytes) = c.copy_from_slice.ensures.after ∙ ap (λ n. take n (drop given bytes)) span in
    let fits : count ≤ length room = omega arith in
    let len : length c.copy_from_slice.new.self ≡ count = c.copy_from_slice.ensures.len ∙ length-take-le count room fits in
    let next = given-next bytes c.copy_from_slice.new.self (drop count room) given count is len in
    ap (λ all. Some (length bytes ∷ all)) (ap (λ more. bytes ++ more) next ∙ sym (append_assoc bytes (take given bytes) (take count (c.copy_from_slice.new.self ++ drop count room))))
