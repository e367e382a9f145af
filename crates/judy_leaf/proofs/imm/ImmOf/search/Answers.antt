use Rattle.std.proofs.Common.{[], ◌∷◌, sym, ◌∙◌}
use Rattle.judy_leaf.specs.KeyLists.{keys_of}
use Rattle.judy_leaf.specs.Packing.{keys_in}
use Rattle.judy_leaf.proofs.LeafLists.{length-keys_of}
use Rattle.judy_leaf.proofs.ImmLists.{imm_keys, imm_ascending, imm_length}
use Rattle.judy_leaf.proofs.Searched.{searched_found, searched_other, searched_none}
use Rattle.judy_leaf.proofs.imm.ImmOf.search.Goals as goal

pub returns-then-found-key : goal.returns-then-found-key
returns-then-found-key g c =
    let same = imm_keys g.V.Words.WORDS c.self.inside.width c.self.inside.count c.self.inside.keys c.self.inside.value c.self.invariant c.args.self.now c.self.view_is
    c.from-count.result c.from-count.ensures in
    let ascending = imm_ascending g.V.Words.WORDS c.self.inside.width c.self.inside.count c.self.inside.keys c.self.inside.value c.self.invariant c.args.self.now c.self.view_is in
    searched_found (keys_in c.self.inside.width c.from-count.result (c.self.inside.keys ∷ [])) (keys_of c.args.self.now.pairs) same ascending c.args.key
    (c.in-Some.at, c.in-Some.found) c.in-Some.ensures c.if-found-key.true

pub returns-else-found-key : goal.returns-else-found-key
returns-else-found-key g c =
    let same = imm_keys g.V.Words.WORDS c.self.inside.width c.self.inside.count c.self.inside.keys c.self.inside.value c.self.invariant c.args.self.now c.self.view_is
    c.from-count.result c.from-count.ensures in
    let ascending = imm_ascending g.V.Words.WORDS c.self.inside.width c.self.inside.count c.self.inside.keys c.self.inside.value c.self.invariant c.args.self.now c.self.view_is in
    searched_other (keys_in c.self.inside.width c.from-count.result (c.self.inside.keys ∷ [])) (keys_of c.args.self.now.pairs) same ascending c.args.key
    (c.in-Some.at, c.in-Some.found) c.in-Some.ensures c.if-found-key.false

pub returns-in-None : goal.returns-in-None
returns-in-None g c =
    let same = imm_keys g.V.Words.WORDS c.self.inside.width c.self.inside.count c.self.inside.keys c.self.inside.value c.self.invariant c.args.self.now c.self.view_is
    c.from-count.result c.from-count.ensures in
    let ascending = imm_ascending g.V.Words.WORDS c.self.inside.width c.self.inside.count c.self.inside.keys c.self.inside.value c.self.invariant c.args.self.now c.self.view_is in
    let long = imm_length g.V.Words.WORDS c.self.inside.width c.self.inside.count c.self.inside.keys c.self.inside.value c.self.invariant c.args.self.now c.self.view_is in
    searched_none (keys_in c.self.inside.width c.from-count.result (c.self.inside.keys ∷ [])) (keys_of c.args.self.now.pairs) same ascending c.args.key c.from-count.result c.in-None.ensures
    (c.from-count.ensures ∙ sym long ∙ sym (length-keys_of c.args.self.now.pairs))
