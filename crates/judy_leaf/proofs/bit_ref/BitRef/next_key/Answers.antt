use Rattle.std.proofs.Common.{Some, sym, ap, ◌∙◌, arith}
use Rattle.std.proofs.lemmas.Option.{none-some}
use Rattle.judy_bits.specs.ByteSets as set
use Rattle.judy_leaf.specs.KeyLists.{keys_of}
use Rattle.judy_leaf.proofs.NextKeys.{rank_behind, next_there, next_key, is_byte}
use Rattle.judy_leaf.proofs.bit_ref.BitRef.next_key.Goals as goal

pub overflow_cast-byte : goal.overflow_cast-byte
overflow_cast-byte g c = let small = is_byte c.args.self.now.pairs c.args.byte c.law.ensures c.requires in omega arith

pub unreachable-requires : goal.unreachable-requires
unreachable-requires g c =
    none-some _ (sym c.in-None.is ∙ c.next_from.ensures ∙ ap (λ keys. set.next_from keys c.args.byte) c.bits.ensures.value ∙
    next_there c.args.self.now.pairs c.law.ensures.ascending c.args.byte c.requires)

pub returns-clause-key : goal.returns-clause-key
returns-clause-key g c =
    next_key c.args.self.now.pairs c.law.ensures.ascending c.args.byte c.requires c.from.result (sym
    (c.next_from.ensures ∙ ap (λ keys. set.next_from keys c.args.byte) c.bits.ensures.value) ∙ c.in-Some.is ∙ ap Some (sym c.from.ensures))

pub returns-clause-past : goal.returns-clause-past
returns-clause-past g c =
    rank_behind (keys_of c.args.self.now.pairs) _ c.from.result c.law.ensures.ascending
    (next_key c.args.self.now.pairs c.law.ensures.ascending c.args.byte c.requires c.from.result (sym
    (c.next_from.ensures ∙ ap (λ keys. set.next_from keys c.args.byte) c.bits.ensures.value) ∙ c.in-Some.is ∙ ap Some (sym c.from.ensures)))
