use Rattle.std.proofs.Common.{◌≡◌, ◌+◌, ◌/◌, ◌%◌, slice_index, ap, sym, subst, ◌∙◌, arith}
use Rattle.std.proofs.lemmas.Nat.{mod_below}
use Rattle.judy_leaf.specs.Packing.{places, pushed, HasZeroPadding}
use Rattle.judy_leaf.specs.Edits.{IsEdit}
use Rattle.judy_leaf.proofs.Placed.{per_pos}
use Rattle.judy_leaf.proofs.EditSteps.{push_one, push_from, tight_at, tight_from, not_yet}
use Rattle.judy_leaf.proofs.edit.push_key.Goals as goal

pub overflow_add-word : goal.overflow_add-word
overflow_add-word g c = let inside = c.requires.inside in let few = c.requires.few in omega arith

pub push_words-requires-clause-tight : goal.push_words-requires-clause-tight
push_words-requires-clause-tight g c =
    tight_from g.row.W c.requires.width c.args.block.now.words c.args.start (c.args.start + c.args.at / (8 / g.row.W)) (omega arith) c.requires.tight

pub with_key-here-requires-clause-tight : goal.with_key-here-requires-clause-tight
with_key-here-requires-clause-tight g c =
    let word = c.args.start + c.args.at / (8 / g.row.W) in
    subst (HasZeroPadding g.row.W) (sym (c.get.ensures ∙ not_yet g.row.W c.requires.width (word + 1) word _ c.args.block.now c.push_words.new.block c.push_words.ensures (omega arith)))
    (tight_at g.row.W c.requires.width c.args.block.now.words c.args.start word (omega arith) c.requires.inside c.requires.tight)

pub returns : goal.returns
returns g c =
    let word = c.args.start + c.args.at / (8 / g.row.W) in
    let before = c.args.block.now in
    let here : c.get.result ≡ slice_index before.words word = c.get.ensures ∙ not_yet g.row.W c.requires.width (word + 1) word _ before c.push_words.new.block c.push_words.ensures (omega arith) in
    push_from g.row.W c.requires.width c.args.start c.args.at c.args.key before c.put.new.self c.requires.inside c.requires.tight
    (subst (IsEdit g.row.W word (pushed (c.args.at % (8 / g.row.W)) c.args.key) before) (sym c.put.ensures)
    (push_one g.row.W c.requires.width word c.args.key before c.push_words.new.block (c.args.at % (8 / g.row.W)) c.with_key-here.result c.requires.inside
    (mod_below c.args.at (8 / g.row.W) (per_pos g.row.W c.requires.width))
    c.push_words.ensures c.with_key-here.ensures.tight (c.with_key-here.ensures.places ∙ ap (λ w. pushed (c.args.at % (8 / g.row.W)) c.args.key (places g.row.W w)) here)))
