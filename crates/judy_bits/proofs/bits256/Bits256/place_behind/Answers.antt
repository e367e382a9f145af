use Rattle.std.proofs.Common.{◌≡◌, ◌+◌, ◌*◌, ◌/◌, cond, Some, None, sym, ap, ◌∙◌}
use Rattle.judy_bits.specs.BitWords.{members_of}
use Rattle.judy_bits.specs.ByteSets.{rank, place}
use Rattle.judy_bits.proofs.MemberLemmas.{has-members_of}
use Rattle.judy_bits.proofs.FrontLemmas.{rank-front}
use Rattle.judy_bits.proofs.TopLemmas.{some_bit, none_bit}
use Rattle.judy_bits.proofs.bits256.Bits256.place_behind.Goals as goal

pub returns-in-Some : goal.returns-in-Some
returns-in-Some c =
    let words = c.self.inside.words in
    let byte = c.args.byte in
    let found = some_bit _ _ c.in-Some.here c.in-Some.ensures in
    let front : rank (members_of words) (64 * (byte / 64)) ≡ c.args.front = ap (λ members. rank members (64 * (byte / 64))) c.self.view_is ∙ sym c.requires.front in
    sym (ap (λ b. cond b (Some (rank (members_of words) byte)) None) (has-members_of words byte c.ranges.byte.fits ∙ found.0)
    ∙ ap Some (rank-front words byte c.ranges.byte.fits ∙ (λ t. front t + sym found.1 t)))
    ∙ ap (λ members. place members byte) c.self.view_is

pub returns-in-None : goal.returns-in-None
returns-in-None c =
    let words = c.self.inside.words in
    let byte = c.args.byte in
    sym (ap (λ b. cond b (Some (rank (members_of words) byte)) None) (has-members_of words byte c.ranges.byte.fits ∙ none_bit _ _ c.in-None.ensures))
    ∙ ap (λ members. place members byte) c.self.view_is
