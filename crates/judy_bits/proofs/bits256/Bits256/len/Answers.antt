use Rattle.std.proofs.Common.{◌≡◌, ◌+◌, arith, ap, sym, subst, length, ◌∙◌}
use Rattle.judy_bits.specs.ByteSets.{IsByteSet}
use Rattle.judy_bits.specs.BitWords.{members_of}
use Rattle.judy_bits.proofs.MemberLemmas.{length-members_of, length-members_of-le, members_of-IsByteSet}
use Rattle.judy_bits.proofs.bits256.Bits256.len.Goals as goal

-- The four counts are the number of members.
counted : (c : goal.After-count-4) → c.count.result + c.count-2.result + c.count-3.result + c.count-4.result ≡ length (members_of c.self.inside.words)
counted c =
    (λ t. c.count.ensures t + c.count-2.ensures t + c.count-3.ensures t + c.count-4.ensures t)
    ∙ sym (length-members_of c.self.inside.words)

pub returns-clause-count : goal.returns-clause-count
returns-clause-count c = counted c ∙ ap length c.self.view_is

pub returns-clause-within : goal.returns-clause-within
returns-clause-within c = let sum = counted c in let most = length-members_of-le c.self.inside.words in omega arith

pub returns-clause-is_set : goal.returns-clause-is_set
returns-clause-is_set c = subst IsByteSet c.self.view_is (members_of-IsByteSet c.self.inside.words)
