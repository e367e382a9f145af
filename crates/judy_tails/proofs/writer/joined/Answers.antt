use Rattle.std.proofs.Common.{take, drop, ◌∙◌, ◌++◌, arith}
use Rattle.std.proofs.lemmas.Nat.{be_bytes_8}
use Rattle.judy_tails.proofs.Joined.{mask-is, joined-fits, joined-bytes}
use Rattle.judy_tails.proofs.writer.joined.Goals as goal

pub overflow_add-word : goal.overflow_add-word
overflow_add-word c =
    let fits = joined-fits c.args.count c.from_be_bytes-word.result c.from_be_bytes-other.result _ c.requires.most (mask-is c.args.count c.requires.some) c.from_be_bytes-word.type_inv in
    omega (arith, fits)

pub returns : goal.returns
returns c =
    let count = c.args.count in
    let word = be_bytes_8 c.args.first.now c.from_be_bytes-word.result c.told-first c.fits-first c.from_be_bytes-word.ensures in
    let other = be_bytes_8 c.args.stand.now c.from_be_bytes-other.result c.told-stand c.fits-stand c.from_be_bytes-other.ensures in
    c.to_be_bytes.ensures ∙ joined-bytes count c.from_be_bytes-word.result c.from_be_bytes-other.result _ c.requires.most (mask-is count c.requires.some) ∙
    (λ t. take count (word t) ++ drop count (other t))
