use Rattle.std.proofs.Common.{◌≡◌, ◌+◌, ◌/◌, ◌%◌, slice_index, ap, sym, subst, ◌∙◌, arith}
use Rattle.std.proofs.lemmas.Nat.{mod_below}
use Rattle.judy_leaf.specs.Packing.{places, pulled, HasZeroPadding}
use Rattle.judy_leaf.specs.Edits.{IsEdit}
use Rattle.judy_leaf.proofs.Placed.{per_pos}
use Rattle.judy_leaf.proofs.EditSteps.{pull_one, pull_from, tight_at, tight_from, not_yet}
use Rattle.judy_leaf.proofs.edit.pull_key.Goals as goal

pub overflow_add-word : goal.overflow_add-word
overflow_add-word g c = let inside = c.requires.inside in let few = c.requires.few in omega arith

pub pull_words-first-requires-clause-tight : goal.pull_words-first-requires-clause-tight
pull_words-first-requires-clause-tight g c =
    tight_from g.row.W c.requires.width c.args.block.now.words c.args.start (c.args.start + c.args.at / (8 / g.row.W)) (omega arith) c.requires.tight

pub without_key-here-requires-clause-tight : goal.without_key-here-requires-clause-tight
without_key-here-requires-clause-tight g c =
    let word = c.args.start + c.args.at / (8 / g.row.W) in
    subst (HasZeroPadding g.row.W) (sym (c.get.ensures ∙ not_yet g.row.W c.requires.width (word + 1) word _ c.args.block.now c.pull_words-first.new.block c.pull_words-first.ensures.edit
    (omega arith)))
    (tight_at g.row.W c.requires.width c.args.block.now.words c.args.start word (omega arith) c.requires.inside c.requires.tight)

pub returns : goal.returns
returns g c =
    let word = c.args.start + c.args.at / (8 / g.row.W) in
    let before = c.args.block.now in
    let here : c.get.result ≡ slice_index before.words word = c.get.ensures ∙ not_yet g.row.W c.requires.width
    (word + 1) word _ before c.pull_words-first.new.block c.pull_words-first.ensures.edit (omega arith) in
    pull_from g.row.W c.requires.width c.args.start c.args.at before c.put.new.self c.requires.inside c.requires.tight
    (subst (IsEdit g.row.W word (pulled (c.args.at % (8 / g.row.W)) 0) before) (sym c.put.ensures)
    (pull_one g.row.W c.requires.width word c.pull_words-first.result before c.pull_words-first.new.block (c.args.at % (8 / g.row.W)) c.without_key-here.result c.requires.inside
    (mod_below c.args.at (8 / g.row.W) (per_pos g.row.W c.requires.width))
    c.pull_words-first.ensures.first c.pull_words-first.ensures.edit c.without_key-here.ensures.tight
    (c.without_key-here.ensures.places ∙ ap (λ w. pulled (c.args.at % (8 / g.row.W)) c.pull_words-first.result (places g.row.W w)) here)))
