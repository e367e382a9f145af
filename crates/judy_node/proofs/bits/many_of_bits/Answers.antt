use Rattle.std.proofs.Common.{sym, ◌∙◌, subst}
use Rattle.judy_model.specs.Ranges.{zeroed}
use Rattle.judy_node.specs.Built.{IsBuilt}
use Rattle.judy_node.proofs.BitFacts.{set_built}
use Rattle.judy_node.proofs.bits.many_of_bits.Goals as goal

pub returns : goal.returns
returns g c =
    let made = c.into_parts-block.ensures in
    subst (IsBuilt g.V.Words.WORDS 1 (zeroed c.args.bits.now)) (sym c.close.ensures)
    (set_built g.V.Words.WORDS c.new.result c.args.bits.now c.into_parts-block.result c.law.ensures c.requires.more made.parts c.new.ensures (made.list ∙ c.in_ok-of_bits.ensures))
