use Rattle.judy_combine.proofs.SetFacts.{kept_bits_node}
use Rattle.judy_combine.proofs.bits.bits_kept.Goals as goal

pub returns : goal.returns
returns g c =
    kept_bits_node g.V.Words.WORDS c.args.keep c.args.one.now c.args.other.now c.bits.result c.bits-2.result c.bytes_kept-bytes.result c.in_ok-made.made c.requires.none
    c.requires.child c.requires.other_child c.law.ensures c.bits.ensures c.bits-2.ensures c.bytes_kept-bytes.ensures c.in_ok-made.ensures
