use Rattle.std.proofs.Common.{◌≡◌, ◌+◌, ◌*◌, ◌%◌, take, ap, ◌∙◌, arith}
use Rattle.judy_block.specs.Contents.{with_gap}
use Rattle.judy_bits.specs.BitWords.{members_of}
use Rattle.judy_bits.proofs.MemberLemmas.{members_of-new}
use Rattle.judy_leaf.specs.BitLeaves.{bit_keys}
use Rattle.judy_leaf.specs.KeyLists.{keys_of, low_pairs}
use Rattle.judy_leaf.proofs.LeafLists.{length-keys_of}
use Rattle.judy_leaf.proofs.LowPairs.{length-low, few_below}
use Rattle.judy_leaf.proofs.BitSteps.{no_bits}
use Rattle.judy_leaf.proofs.bit_leaf.BitLeafOf.from_sorted.Goals as goal

pub capacity_for-requires-clause-count : goal.capacity_for-requires-clause-count
capacity_for-requires-clause-count g c =
    let few = few_below 256 (keys_of (low_pairs 256 c.args.pairs.now)) c.requires.list.ascending c.requires.list.below in
    let keys = length-keys_of (low_pairs 256 c.args.pairs.now) in
    let pairs = length-low 256 c.args.pairs.now in
    omega arith

pub put_all-requires-clause-parts : goal.put_all-requires-clause-parts
put_all-requires-clause-parts g c =
    let tag = ap (λ b. b.tag) c.set_bit_width.ensures in
    let before = ap (λ b. b.tag) c.open_gap.ensures ∙ ap (λ b. b.tag) c.in_ok-block.ensures in
    (no_bits g.V.Words.WORDS c.args.width c.set_bit_width.new.block c.requires.words c.requires.width.some c.requires.width.most
    (ap (λ b. b.words) c.set_bit_width.ensures ∙ ap (λ b. b.words) c.open_gap.ensures ∙ ap (λ b. with_gap 0 4 b.words) c.in_ok-block.ensures)
    (tag ∙ (λ t. before t % 65536 + 65536 * c.from.ensures t) ∙ (let e : 0 + 65536 * c.args.width ≡ 65536 * c.args.width = omega arith in e))).0

pub put_all-requires-clause-empty : goal.put_all-requires-clause-empty
put_all-requires-clause-empty g c =
    ap (λ b. bit_keys b) c.set_bit_width.ensures ∙ ap (λ b. bit_keys b) c.open_gap.ensures ∙ ap (λ b. members_of (take 4 (with_gap 0 4 b.words))) c.in_ok-block.ensures ∙ members_of-new
