use Rattle.std.proofs.Common.{◌≤◌, sym, subst, ◌∙◌}
use Rattle.judy_leaf.proofs.BitLists.{bit_length, bit_most, bit_set, bit_list_is}
use Rattle.judy_leaf.proofs.bit_ref.BitRef.len.Goals as goal

pub returns-clause-count : goal.returns-clause-count
returns-clause-count g c = c.bit_count.ensures ∙ c.self.invariant.count ∙ sym (bit_length g.V.Words.WORDS c.self.inside.block.now c.self.invariant c.args.self.now c.self.view_is)

pub returns-clause-within : goal.returns-clause-within
returns-clause-within g c =
    subst (λ n. n ≤ 256) (bit_length g.V.Words.WORDS c.self.inside.block.now c.self.invariant c.args.self.now c.self.view_is ∙ sym c.self.invariant.count ∙ sym c.bit_count.ensures)
    (bit_most g.V.Words.WORDS c.self.inside.block.now c.self.invariant c.args.self.now c.self.view_is)

pub returns-clause-is_set : goal.returns-clause-is_set
returns-clause-is_set g c = bit_set g.V.Words.WORDS c.self.inside.block.now c.self.invariant c.args.self.now c.self.view_is

pub returns-clause-list : goal.returns-clause-list
returns-clause-list g c = bit_list_is g.V.Words.WORDS c.self.inside.block.now c.self.invariant c.args.self.now c.self.view_is
