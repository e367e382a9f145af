use Rattle.std.proofs.Common.{take, length, ap, sym, ◌∙◌, arith}
use Rattle.judy_bits.specs.BitWords.{members_of}
use Rattle.judy_leaf.proofs.BitLists.{four_words, bit_keys_are, bit_set}
use Rattle.judy_leaf.proofs.bit_ref.BitRef.bit_words.Goals as goal

pub returns-clause-four : goal.returns-clause-four
returns-clause-four g c =
    let full = c.self.invariant.full in
    ap (λ words. length (take 4 words)) c.words.ensures ∙ sym (ap length (four_words c.self.inside.block.now.words (omega arith)))

pub returns-clause-keys : goal.returns-clause-keys
returns-clause-keys g c =
    ap (λ words. members_of (take 4 words)) c.words.ensures ∙ bit_keys_are g.V.Words.WORDS c.self.inside.block.now c.self.invariant c.args.self.now c.self.view_is

pub returns-clause-is_set : goal.returns-clause-is_set
returns-clause-is_set g c = bit_set g.V.Words.WORDS c.self.inside.block.now c.self.invariant c.args.self.now c.self.view_is
