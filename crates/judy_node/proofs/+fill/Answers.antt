use Rattle.std.proofs.Common.{◌≡◌, ◌+◌, ◌-◌, ◌*◌, ◌^◌, ◌<◌, ◌≤◌, ◌++◌, length, take, drop, get_or, sym, refl, ap, ◌∙◌, subst, arith}
use Rattle.std.proofs.lemmas.List.{take_all, length-take-le, length-drop}
use Rattle.std.proofs.lemmas.Slice.{take-put_mid}
use Rattle.std.proofs.lemmas.Option.{slice_get-get_or}
use Rattle.judy_model.specs.WordBytes.{number_of}
use Rattle.judy_model.proofs.lemmas.orders.ByteLemmas.{unit_pos}
use Rattle.judy_leaf.specs.KeyLists.{shift}
use Rattle.judy_leaf.specs.BitLeaves.{bit_list}
use Rattle.judy_node.specs.Trees.{join, IsBranch}
use Rattle.judy_node.specs.Kinds.{tree_of}
use Rattle.judy_node.specs.Populations.{population}
use Rattle.judy_node.proofs.Maps.{length-shift, shift-shift, shift-append, children-length}
use Rattle.judy_node.proofs.Counts.{population-step}
use Rattle.judy_node.proofs.StepFacts.{block_fits, rank_zero}
use Rattle.judy_node.proofs.FillFacts.{kid_here, next_told, next_behind, kid_is, front_fits, start_word, word_below, kids_within, next_pairs, branch_long}
use Rattle.judy_node.proofs.+fill.Goals as goal

pub child::ChildOf::fill-fill-requires-in-Bit-clause-room :
    goal.child::ChildOf::fill-fill-requires-in-Bit-clause-room
child::ChildOf::fill-fill-requires-in-Bit-clause-room g t c =
    let words = g.V.Words.WORDS in
    c.requires.room ∙ ap (λ tree. length tree.pairs) (sym (ap (tree_of words) (sym c.in-Bit.is) ∙ c.kind.ensures.tree))
    ∙ length-shift (c.in-Bit.head * 256) (bit_list words c.in-Bit.block).pairs ∙ ap (λ l. length l.pairs) (sym c.new-in-Bit.ensures)

pub child::ChildOf::fill-returns-in-Bit : goal.child::ChildOf::fill-returns-in-Bit
child::ChildOf::fill-returns-in-Bit g t c =
    let words = g.V.Words.WORDS in
    let inner = (bit_list words c.in-Bit.block).pairs in
    c.fill-in-Bit.ensures
    ∙ (λ j. shift (c.args.base + c.number-in-Bit.ensures.value j * 256) (c.new-in-Bit.ensures j).pairs)
    ∙ sym (shift-shift c.args.base (c.in-Bit.head * 256) (c.args.base + c.in-Bit.head * 256) inner refl)
    ∙ ap (λ tree. shift c.args.base tree.pairs) (ap (tree_of words) (sym c.in-Bit.is) ∙ c.kind.ensures.tree)

pub fill::fill_branch-overflow_mul-front : goal.fill::fill_branch-overflow_mul-front
fill::fill_branch-overflow_mul-front g t c =
    let branch = c.args.branch.now in
    let within = c.requires.level.parts.within in
    let some = c.requires.level.parts.some_width in
    let fits = block_fits branch.skip c.requires.level.parts.skipped_bytes (omega arith) in
    let same = c.number-front.ensures in
    omega arith

pub fill::fill_branch-unreachable-requires : goal.fill::fill_branch-unreachable-requires
fill::fill_branch-unreachable-requires g t c =
    let branch = c.args.branch.now in
    let long = children-length g.V.Words.WORDS branch.width 0 branch.bytes branch.children.items c.requires.level.parts.children in
    let same = ap length c.deref-child-items.ensures.value in
    let inside = c.loop-place-test.true in
    c.in_default.not-Some (get_or branch.bytes c.loop-place.place 0)
    (next_told c.loop-place.from c.requires.level (c.loop-place.invariant.2 inside) c.next_from.ensures ∙ slice_get-get_or branch.bytes c.loop-place.place 0 (omega arith))

pub fill::fill_branch-overflow_add-front : goal.fill::fill_branch-overflow_add-front
fill::fill_branch-overflow_add-front g t c =
    let here = kid_here c.loop-place.from c.requires.level c.deref-child-items.ensures.value c.loop-place-test.true c.child-item.is c.loop-place.invariant.2 c.in-Some.is c.next_from.ensures in
    let front = front_fits here c.requires.level.parts.within in
    let same = c.number-front.ensures in
    let byte = c.from.ensures in
    omega arith

pub fill::fill_branch-moved_up-start-requires-clause-within :
    goal.fill::fill_branch-moved_up-start-requires-clause-within
fill::fill_branch-moved_up-start-requires-clause-within g t c =
    let branch = c.args.branch.now in
    let here = kid_here c.loop-place.from c.requires.level c.deref-child-items.ensures.value c.loop-place-test.true c.child-item.is c.loop-place.invariant.2 c.in-Some.is c.next_from.ensures in
    let word = start_word here c.args.base c.requires.fits in
    subst (λ n. n < 2 ^ 64) (sym (λ j. (c.number-front.ensures j * 256 + c.from.ensures j) * 256 ^ c.from-in-loop-place.ensures j)) (word_below c.args.base _ branch.width word)

pub fill::fill_branch-overflow_add-end : goal.fill::fill_branch-overflow_add-end
fill::fill_branch-overflow_add-end g t c =
    let here = kid_here c.loop-place.from c.requires.level c.deref-child-items.ensures.value c.loop-place-test.true c.child-item.is c.loop-place.invariant.2 c.in-Some.is c.next_from.ensures in
    let within = kids_within here in
    let so_far = c.loop-place.invariant.0 in
    let count = c.pop.ensures in
    let room = c.requires.room in
    omega arith

pub fill::fill_branch-prove-unreachable-requires :
    goal.fill::fill_branch-prove-unreachable-requires
fill::fill_branch-prove-unreachable-requires g t c =
    let here = kid_here c.loop-place.from c.requires.level c.deref-child-items.ensures.value c.loop-place-test.true c.child-item.is c.loop-place.invariant.2 c.in-Some.is c.next_from.ensures in
    let within = kids_within here in
    let so_far = c.loop-place.invariant.0 in
    let count = c.pop.ensures in
    let room = c.requires.room in
    let past = c.if-prove.true in
    omega arith

pub fill::fill_branch-overflow_add-base : goal.fill::fill_branch-overflow_add-base
fill::fill_branch-overflow_add-base g t c =
    let branch = c.args.branch.now in
    let here = kid_here c.loop-place.from c.requires.level c.deref-child-items.ensures.value c.loop-place-test.true c.child-item.is c.loop-place.invariant.2 c.in-Some.is c.next_from.ensures in
    let word = start_word here c.args.base c.requires.fits in
    let some = unit_pos branch.width in
    let start = c.moved_up-start.ensures ∙ (λ j. (c.number-front.ensures j * 256 + c.from.ensures j) * 256 ^ c.from-in-loop-place.ensures j) in
    omega arith

pub fill::fill_branch-fill-requires : goal.fill::fill_branch-fill-requires
fill::fill_branch-fill-requires g t c κs within =
    let here = kid_here c.loop-place.from c.requires.level c.deref-child-items.ensures.value c.loop-place-test.true c.child-item.is c.loop-place.invariant.2 c.in-Some.is c.next_from.ensures in
    let word = start_word here c.args.base c.requires.fits in
    let start = c.moved_up-start.ensures ∙ (λ j. (c.number-front.ensures j * 256 + c.from.ensures j) * 256 ^ c.from-in-loop-place.ensures j) in
    let falls = c.decreases in
    let held = kids_within here in
    let so_far = c.loop-place.invariant.0 in
    let count = c.pop.ensures in
    let room = c.requires.room in
    let long = c.loop-place.auto.out in
    let rest = length-drop c.loop-place.at c.loop-place.out in
    let part = length-take-le (c.loop-place.at + c.pop.result - c.loop-place.at) (drop c.loop-place.at c.loop-place.out) (omega arith) in
    (omega arith, (within, (omega arith, (kid_is here, (omega arith, omega arith)))))

pub fill::fill_branch-loop-place-init : goal.fill::fill_branch-loop-place-init
fill::fill_branch-loop-place-init g t c = (refl, refl, λ more. rank_zero c.args.branch.now.bytes)

pub fill::fill_branch-loop-place-preserved : goal.fill::fill_branch-loop-place-preserved
fill::fill_branch-loop-place-preserved g t c =
    let branch = c.args.branch.now in
    let kids = c.deref-child-items.result.now in
    let here = kid_here c.loop-place.from c.requires.level c.deref-child-items.ensures.value c.loop-place-test.true c.child-item.is c.loop-place.invariant.2 c.in-Some.is c.next_from.ensures in
    let place = c.loop-place.place in
    let at = c.loop-place.at in
    let so_far = c.loop-place.invariant in
    let count = c.pop.ensures in
    let held = kids_within here in
    let room = c.requires.room in
    let long = c.loop-place.auto.out in
    let step = population-step kids place c.child-item.result c.loop-place-test.true c.child-item.is in
    let first = so_far.0 in
    let start = c.moved_up-start.ensures ∙ (λ j. (c.number-front.ensures j * 256 + c.from.ensures j) * 256 ^ c.from-in-loop-place.ensures j) in
    let filled : c.fill.new.out ≡ shift c.args.base (shift ((number_of branch.skip * 256 + c.in-Some.byte) * 256 ^ branch.width) c.child-item.result.pairs) =
    c.fill.ensures ∙ ap (λ n. shift (c.args.base + n) c.child-item.result.pairs) start
    ∙ sym (shift-shift c.args.base ((number_of branch.skip * 256 + c.in-Some.byte) * 256 ^ branch.width)
    (c.args.base + (number_of branch.skip * 256 + c.in-Some.byte) * 256 ^ branch.width) c.child-item.result.pairs refl) in
    let many = ap length c.fill.ensures ∙ length-shift (c.args.base + c.moved_up-start.result) c.child-item.result.pairs in (
      omega arith,
      take-put_mid at (at + c.pop.result - at) c.loop-place.out c.fill.new.out (at + c.pop.result) (omega arith) (omega arith)
          ∙ (λ j. so_far.1 j ++ filled j)
          ∙ sym (shift-append c.args.base (join (256 ^ branch.width) (number_of branch.skip * 256) (take place branch.bytes) (take place kids))
          (shift ((number_of branch.skip * 256 + c.in-Some.byte) * 256 ^ branch.width) c.child-item.result.pairs))
          ∙ ap (shift c.args.base) (next_pairs here (place + 1) refl),
      λ more. next_behind here c.saturating_add-from.result (λ less. omega (arith, c.saturating_add-from.ensures)) more,
    )

pub fill::fill_branch-returns : goal.fill::fill_branch-returns
fill::fill_branch-returns g t c =
    let words = g.V.Words.WORDS in
    let branch = c.args.branch.now in
    let kids = c.deref-child-items.result.now in
    let level = subst (λ ks. IsBranch words branch.width branch.skip branch.bytes ks branch.population) (sym c.deref-child-items.ensures.value) c.requires.level in
    let place = c.loop-place.place in
    let past = c.loop-place-test.false in
    let all = branch_long words branch.width branch.skip branch.bytes kids branch.population level in
    let long = c.loop-place.auto.out in
    let room = c.requires.room in
    let so_far = c.loop-place.invariant in
    let bytes_long = children-length words branch.width 0 branch.bytes kids level.parts.children in
    let whole = take_all place kids (omega arith) in
    let everything = so_far.0 ∙ ap population whole in
    sym (take_all c.loop-place.at c.loop-place.out (omega arith)) ∙ so_far.1
    ∙ (λ j. shift c.args.base (join (256 ^ branch.width) (number_of branch.skip * 256) (take_all place branch.bytes (let e : length branch.bytes ≤ place = omega arith in e) j)
    ((whole ∙ c.deref-child-items.ensures.value) j)))
