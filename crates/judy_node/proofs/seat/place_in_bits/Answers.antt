use Rattle.std.proofs.Common.{length, sym, ap, ◌∙◌}
use Rattle.judy_bits.specs.ByteSets.{place}
use Rattle.judy_leaf.specs.KeyLists.{keys_of}
use Rattle.judy_node.proofs.PresentFacts.{member-place, full-place}
use Rattle.judy_node.proofs.seat.place_in_bits.Goals as goal

pub unreachable-requires : goal.unreachable-requires
unreachable-requires g c = c.in_default.not-Some _
    (c.find.ensures ∙ ap (λ list. place (keys_of list.pairs) c.args.key) c.new-leaf.ensures ∙ member-place _ c.args.key c.requires.present)

pub returns-then-len-eq256 : goal.returns-then-len-eq256
returns-then-len-eq256 g c =
    full-place g.V.Words.WORDS c.args.key c.args.block.now
    (ap (λ list. length list.pairs) (sym c.new-leaf.ensures) ∙ sym c.len.ensures.count ∙ c.if-len-eq256.true) c.requires.present
