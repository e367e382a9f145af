use Rattle.std.proofs.Common.{sym, ap, ◌∙◌, slice_get}
use Rattle.judy_leaf.proofs.BitLists.{bit_key, bit_some}
use Rattle.judy_leaf.proofs.bit_ref.BitRef.key_at.Goals as goal

pub unreachable-requires : goal.unreachable-requires
unreachable-requires g c = bit_some c.args.self.now.pairs c.args.at c.requires (sym c.in-None.is ∙ c.nth.ensures ∙ ap (λ keys. slice_get keys c.args.at) c.bits.ensures.value)

pub returns-clause-key : goal.returns-clause-key
returns-clause-key g c =
    c.from.ensures ∙ bit_key c.args.self.now.pairs c.args.at c.in-Some.byte c.requires (sym c.in-Some.is ∙ c.nth.ensures ∙ ap (λ keys. slice_get keys c.args.at) c.bits.ensures.value)
