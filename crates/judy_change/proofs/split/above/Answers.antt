use Rattle.std.proofs.Common.{◌≡◌, ◌+◌, ◌-◌, ◌/◌, ◌%◌, ◌^◌, [], ◌∷◌, length, sym, ap, ◌∙◌, subst, arith, vec_len, vec_capacity}
use Rattle.std.specs.List.{insert}
use Rattle.judy_model.specs.WordBytes.{low_bytes}
use Rattle.judy_bits.specs.ByteSets.{rank, with_byte}
use Rattle.judy_node.specs.Trees.{IsChild}
use Rattle.judy_node.specs.Kinds.{tree_of}
use Rattle.judy_change.specs.Splits.{IsAbove, IsShorter}
use Rattle.judy_change.proofs.BranchInserts.{BranchParts}
use Rattle.judy_change.proofs.Shorter.{number_small, tail_some, above_is}
use Rattle.judy_change.proofs.split.above.Goals as goal

pub returns-clause-room : goal.returns-clause-room
returns-clause-room g c =
    let kids = ap (λ b. b.children) c.deref_mut-2.ensures.value ∙ ap (λ b. b.children) c.deref_mut.ensures.value ∙ ap (λ b. b.children) c.in-Ok-new.ensures.ok in
    let len = ap vec_len kids in
    let cap = ap vec_capacity kids in
    let more = c.add_child.ensures.len in
    let room = c.add_child.ensures.capacity in
    let none = c.in-Ok.ensures.len in
    let two = c.in-Ok.ensures.exact in
    omega arith

pub returns-clause-above : goal.returns-clause-above
returns-clause-above g c =
    let words = g.V.Words.WORDS in
    let number = c.args.skipped.number in
    let count = c.args.skipped.count in
    let tail = c.args.skipped.tail in
    let left = c.args.left in
    let old = tree_of words c.args.kind in
    let new = c.close-child.result in
    let made = c.add_child.ensures in
    let width = made.width ∙ ap (λ b. b.width) c.deref_mut-2.ensures.value ∙ ap (λ b. b.width) c.deref_mut.ensures.value ∙ ap (λ b. b.width) c.in-Ok-new.ensures.ok in
    let skip = made.skip ∙ ap (λ b. b.skip) c.deref_mut-2.ensures.value ∙ ap (λ b. b.skip) c.deref_mut.ensures.value ∙ ap (λ b. b.skip) c.in-Ok-new.ensures.ok ∙ c.skip_of.ensures
    ∙ ap (low_bytes (count - left - 1)) (c.without_low.ensures ∙ ap (λ n. number / 256 ^ (n + 1)) c.from.ensures) in
    let none = ap (λ b. b.bytes) c.deref_mut-2.ensures.value ∙ ap (λ b. b.bytes) c.deref_mut.ensures.value ∙ ap (λ b. b.bytes) c.in-Ok-new.ensures.ok ∙ c.new.ensures in
    let byte = c.low_part-byte.ensures ∙ ap (λ n. n % 256) (c.without_low-2.ensures ∙ ap (λ n. number / 256 ^ n) c.from-2.ensures) in
    let bytes = made.bytes ∙ ap (λ bs. with_byte bs c.low_part-byte.result) none ∙ ap (λ b. b ∷ []) byte in
    let items = ap (λ b. b.children.items) c.deref_mut-2.ensures.value ∙ ap (λ b. b.children.items) c.deref_mut.ensures.value ∙ ap (λ b. b.children.items) c.in-Ok-new.ensures.ok ∙
    c.in-Ok.ensures.items in
    let kids = made.children ∙ (λ t. insert (items t) (rank (none t) c.low_part-byte.result) new) in
    let size = made.population ∙ ap (λ b. b.population) c.deref_mut-2.ensures.value ∙ c.pop.ensures in
    let child = subst (IsChild words (left + tail)) (sym c.close-child.ensures) c.shortened.ensures.child in
    let shorter = subst (IsShorter number left tail old) (sym c.close-child.ensures) c.shortened.ensures.shorter in
    let done = above_is words number count tail left old new c.requires.child (number_small words number count tail c.args.kind c.requires.level c.requires.skips) c.requires.left
    (tail_some number count tail c.args.kind c.requires.skips) child shorter in
    let same : record { width = left + tail; skip = low_bytes (count - left - 1) (number / 256 ^ (left + 1)); bytes = (number / 256 ^ left % 256) ∷ []; kids = new ∷ []; count = length new.pairs }
    ≡ record {
      width = c.add_child.new.branch.width;
      skip = c.add_child.new.branch.skip;
      bytes = c.add_child.new.branch.bytes;
      kids = c.add_child.new.branch.children.items;
      count = c.add_child.new.branch.population;
    } =
    λ t. record { width = sym width t; skip = sym skip t; bytes = sym bytes t; kids = sym kids t; count = sym size t } in
    subst (λ (p : BranchParts). IsAbove words number count tail left old p.width p.skip p.bytes p.kids p.count) same done
