use Rattle.std.proofs.Common.{◌≡◌, ◌*◌, ap, sym, length, ◌∙◌, arith}
use Rattle.judy_bits.specs.ByteSets.{nth}
use Rattle.judy_bits.specs.BitWords.{is_set}
use Rattle.judy_bits.proofs.Ranges.{chosen}
use Rattle.judy_bits.proofs.MemberLemmas.{nth_selected, chosen_past, nth_past}
use Rattle.judy_bits.proofs.bits_ref.BitsRef.nth.Goals as goal

pub returns-then-left-count : goal.returns-then-left-count
returns-then-left-count c =
    sym (nth_selected c.self.inside.words.now c.args.at c.loop-word.word c.loop-word.left c.select.result c.loop-word-test.true c.loop-word.invariant c.select.ensures)
    ∙ ap (λ members. nth members c.args.at) c.self.view_is

pub loop-word-preserved : goal.loop-word-preserved
loop-word-preserved c =
    rw c.count-count.ensures (chosen_past c.self.inside.words.now c.args.at c.loop-word.word c.loop-word.left c.loop-word.invariant (rw c.count-count.ensures at c.if-left-count.false))

pub returns : goal.returns
returns c =
    let end : 64 * c.loop-word.word ≡ 256 = omega arith in
    let so_far = c.loop-word.invariant in
    let whole = ap (λ n. length (chosen (is_set c.self.inside.words.now) 0 n)) end in
    sym (nth_past c.self.inside.words.now c.args.at (omega arith)) ∙ ap (λ members. nth members c.args.at) c.self.view_is
