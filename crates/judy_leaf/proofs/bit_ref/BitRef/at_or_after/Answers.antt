use Rattle.std.proofs.Common.{ap, sym, subst, Some, ◌<◌, ◌∙◌, length, get_or, arith}
use Rattle.judy_bits.specs.ByteSets as set
use Rattle.judy_leaf.specs.KeyLists.{values_of}
use Rattle.judy_leaf.proofs.BitLists.{bit_rank_above}
use Rattle.judy_leaf.proofs.Nearest.{next_none, next_inside, next_member, no_next_member}
use Rattle.judy_leaf.proofs.bit_ref.BitRef.at_or_after.Goals as goal

pub returns-then-number-gt255 : goal.returns-then-number-gt255
returns-then-number-gt255 g c =
    let above = c.if-number-gt255.true in
    next_none c.args.self.now.pairs c.law.ensures.ascending c.args.number (sym (bit_rank_above c.args.self.now.pairs c.args.number c.law.ensures (omega arith)))

pub value_at-requires : goal.value_at-requires
value_at-requires g c =
    subst (λ at. at < length c.args.self.now.pairs) (sym c.rank.ensures.value)
    (next_inside c.args.self.now.pairs c.law.ensures.ascending c.args.number c.in-Some.key (sym c.in-Some.is ∙ c.next_from.ensures ∙
    ap (λ keys. set.next_from keys c.args.number) c.bits.ensures.value))

pub returns-in-Some : goal.returns-in-Some
returns-in-Some g c =
    next_member c.args.self.now.pairs c.law.ensures.ascending c.args.number c.from.result c.value_at.result
    (ap Some c.from.ensures ∙ sym c.in-Some.is ∙ c.next_from.ensures ∙ ap (λ keys. set.next_from keys c.args.number) c.bits.ensures.value)
    (c.value_at.ensures ∙ ap (λ at. get_or (values_of c.args.self.now.pairs) at 0) c.rank.ensures.value)

pub returns-in-None : goal.returns-in-None
returns-in-None g c =
    no_next_member c.args.self.now.pairs c.law.ensures.ascending c.args.number (sym c.in-None.is ∙ c.next_from.ensures ∙ ap (λ keys. set.next_from keys c.args.number) c.bits.ensures.value)
