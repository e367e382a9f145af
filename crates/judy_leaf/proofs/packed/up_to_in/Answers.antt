use Rattle.std.proofs.Common.{ap, sym, ◌∙◌}
use Rattle.judy_bits.specs.ByteSets as set
use Rattle.judy_leaf.specs.Packing.{keys_in}
use Rattle.judy_leaf.proofs.KeysIn.{all_up_to}
use Rattle.judy_leaf.proofs.Nearest.{up_to-rank}
use Rattle.judy_leaf.proofs.packed.up_to_in.Goals as goal

pub returns-then-number-eq18446744073709551615 : goal.returns-then-number-eq18446744073709551615
returns-then-number-eq18446744073709551615 g c =
    sym (ap (set.count_up_to (keys_in g.row.W c.args.count c.args.words.now)) c.if-number-eq18446744073709551615.true ∙ all_up_to g.row.W c.args.count c.args.words.now c.requires.packed)

pub returns-else-number-eq18446744073709551615 : goal.returns-else-number-eq18446744073709551615
returns-else-number-eq18446744073709551615 g c = c.rank_in.ensures ∙ sym (up_to-rank (keys_in g.row.W c.args.count c.args.words.now) c.args.number)
