use Rattle.std.proofs.Common.{sym, ◌∙◌, subst, arith}
use Rattle.judy_leaf.specs.KeyLists.{low_pairs}
use Rattle.judy_node.specs.Kinds.{IsBit, bit_tree}
use Rattle.judy_node.specs.Built.{IsBuilt}
use Rattle.judy_node.proofs.Leaves.{map_list, map_free}
use Rattle.judy_node.proofs.BuiltFacts.{bits_made, bits_built}
use Rattle.judy_node.proofs.build.bits.Goals as goal

pub from_sorted-requires-clause-list : goal.from_sorted-requires-clause-list
from_sorted-requires-clause-list g c = map_list g.V.Words.WORDS 1 (low_pairs 256 c.args.pairs.now) (omega arith) (omega arith) c.requires.map

pub from_sorted-requires-clause-no_values : goal.from_sorted-requires-clause-no_values
from_sorted-requires-clause-no_values g c = map_free g.V.Words.WORDS 0 256 256 c.args.pairs.now c.requires.map

pub returns-clause-level : goal.returns-clause-level
returns-clause-level g c =
    let words = g.V.Words.WORDS in
    let many = c.requires.more in
    let made = c.into_parts-block.ensures in (
      subst (λ n. IsBit words n c.into_parts-block.result) (sym c.new.ensures) (bits_made words c.into_parts-block.result c.args.pairs.now made.parts
          (made.list ∙ c.in_ok-from_sorted.ensures) (omega arith)),
      tt,
    )

pub returns-clause-built : goal.returns-clause-built
returns-clause-built g c =
    let words = g.V.Words.WORDS in
    let made = c.into_parts-block.ensures in
    subst (λ n. IsBuilt words 1 c.args.pairs.now (bit_tree words n c.into_parts-block.result)) (sym c.new.ensures)
    (bits_built words c.into_parts-block.result c.args.pairs.now made.parts (made.list ∙ c.in_ok-from_sorted.ensures) c.requires.more c.requires.map)
