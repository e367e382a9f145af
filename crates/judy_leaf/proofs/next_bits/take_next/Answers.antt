use Rattle.std.proofs.Common.{◌+◌, ◌-◌, ◌*◌, ◌<◌, Some, sym, ap, ◌∙◌, subst, arith, bit_and}
use Rattle.judy_leaf.specs.NextBits.{AreLeft}
use Rattle.judy_leaf.proofs.NextBits.{next_word, word_behind, next_below, next_told, left_behind}
use Rattle.judy_leaf.proofs.next_bits.take_next.Goals as goal

pub overflow_add-word : goal.overflow_add-word
overflow_add-word c = omega (arith, (c.loop-left.invariant c.requires.some.0 c.requires.some.1).inside)

pub offset_bounds-words-word : goal.offset_bounds-words-word
offset_bounds-words-word c = omega (arith, (c.loop-left.invariant c.requires.some.0 c.requires.some.1).inside)

pub bounds-words-word : goal.bounds-words-word
bounds-words-word c =
    let is = c.loop-left.invariant c.requires.some.0 c.requires.some.1 in
    let inside = is.inside in
    let more = word_behind c.args.words.now c.loop-left.word c.loop-left.left c.requires.some.0 is c.requires.some.2 c.loop-left-test.true c.requires.some.3 in
    let four = c.requires.four in
    omega arith

pub loop-left-smaller : goal.loop-left-smaller
loop-left-smaller c = omega (arith, (c.loop-left.invariant c.requires.some.0 c.requires.some.1).inside)

pub loop-left-preserved : goal.loop-left-preserved
loop-left-preserved c =
    let is = c.loop-left.invariant c.requires.some.0 c.requires.some.1 in
    let words = c.args.words.now in
    let more = word_behind words c.loop-left.word c.loop-left.left c.requires.some.0 is c.requires.some.2 c.loop-left-test.true c.requires.some.3 in
    λ byte all. next_word words c.loop-left.word c.loop-left.left byte (c.loop-left.invariant byte all) c.loop-left-test.true more (c.type_inv.words (c.loop-left.word + 1)).fits

pub overflow_mul-result : goal.overflow_mul-result
overflow_mul-result c = omega (arith, (c.loop-left.invariant c.requires.some.0 c.requires.some.1).inside)

pub overflow_add-result : goal.overflow_add-result
overflow_add-result c =
    let below = next_below c.args.words.now c.loop-left.word c.loop-left.left c.requires.some.0 (c.loop-left.invariant c.requires.some.0 c.requires.some.1) (omega (arith, c.loop-left-test.false)) in
    let same = c.from-bit.ensures in
    omega arith

pub returns-clause-next : goal.returns-clause-next
returns-clause-next c = λ byte all.
    let words = c.args.words.now in
    let word = c.loop-left.word in
    let left = c.loop-left.left in
    let is = c.loop-left.invariant byte all in
    let some : 0 < left = let apart = c.loop-left-test.false in omega arith in (
      next_told words word left byte is some ∙ ap (λ n. Some (64 * word + n)) (sym c.from-bit.ensures),
      subst (λ n. AreLeft words word (bit_and left (left - 1)) (64 * word + n + 1)) (sym c.from-bit.ensures) (left_behind words word left byte is some),
    )

pub returns-clause-below : goal.returns-clause-below
returns-clause-below c =
    let below = next_below c.args.words.now c.loop-left.word c.loop-left.left c.requires.some.0 (c.loop-left.invariant c.requires.some.0 c.requires.some.1) (omega (arith, c.loop-left-test.false)) in
    let same = c.from-bit.ensures in
    omega arith
