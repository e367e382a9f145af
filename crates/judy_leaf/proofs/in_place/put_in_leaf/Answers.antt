use Rattle.std.proofs.Common.{◌+◌, ◌*◌, ◌≤◌, refl, sym, subst, ◌∙◌}
use Rattle.judy_leaf.specs.Leaves.{leaf_list}
use Rattle.judy_leaf.specs.PairChanges.{IsPairPut}
use Rattle.judy_leaf.proofs.LeafLists.{leaf_length, read_rank}
use Rattle.judy_leaf.proofs.LeafChanges.{leaf_put}
use Rattle.judy_leaf.proofs.in_place.put_in_leaf.Goals as goal

pub put-requires-clause-place : goal.put-requires-clause-place
put-requires-clause-place g c =
    let words = g.V.Words.WORDS in
    let list = leaf_list words c.args.count.now c.args.block.now in
    subst (λ n. c.args.at ≤ n) (leaf_length words c.args.count.now c.args.block.now c.requires.parts ∙ sym c.from-before.ensures)
    (read_rank words c.args.count.now c.args.block.now c.requires.parts list refl c.args.at c.args.key c.requires.place)

pub returns-clause-parts : goal.returns-clause-parts
returns-clause-parts g c =
    let words = g.V.Words.WORDS in
    (leaf_put words c.args.count.now (c.WORDS.result * (c.from-before.result + 1) + c.words_of.result) c.args.at c.args.key c.args.value c.args.block.now
    c.give_roomy.new.block c.put.new.block (leaf_list words c.args.count.now c.args.block.now) c.requires.parts refl
    (c.in_ok-give_roomy.ensures.room) (subst (λ n. IsPairPut words n c.args.at c.args.key c.args.value c.give_roomy.new.block c.put.new.block) c.from-before.ensures c.put.ensures)
    c.requires.place c.requires.absent).0

pub returns-clause-added : goal.returns-clause-added
returns-clause-added g c =
    let words = g.V.Words.WORDS in
    (leaf_put words c.args.count.now (c.WORDS.result * (c.from-before.result + 1) + c.words_of.result) c.args.at c.args.key c.args.value c.args.block.now
    c.give_roomy.new.block c.put.new.block (leaf_list words c.args.count.now c.args.block.now) c.requires.parts refl
    (c.in_ok-give_roomy.ensures.room) (subst (λ n. IsPairPut words n c.args.at c.args.key c.args.value c.give_roomy.new.block c.put.new.block) c.from-before.ensures c.put.ensures)
    c.requires.place c.requires.absent).1
