use Rattle.std.proofs.Common.{subst, sym, ◌∙◌}
use Rattle.std.specs.List.Sorted.{IsStrictlySortedBy}
use Rattle.judy_model.specs.Keys.{word_order}
use Rattle.judy_leaf.specs.KeyLists.{keys_of}
use Rattle.judy_leaf.specs.Leaves.{keys_from}
use Rattle.judy_leaf.proofs.LeafLists.{length-keys_of}
use Rattle.judy_leaf.proofs.Searched.{searched_found, searched_other, searched_none}
use Rattle.judy_leaf.proofs.leaf_ref.LeafRef.search.Goals as goal

pub returns-then-found-key : goal.returns-then-found-key
returns-then-found-key g c =
    searched_found (keys_from c.keys-width.result.0 c.keys-width.result.3 c.keys-width.result.2 c.keys-width.result.1.now) (keys_of c.args.self.now.pairs) c.keys-width.ensures.same
    (subst (IsStrictlySortedBy word_order) c.keys-width.ensures.same c.keys-width.ensures.ascending) c.args.key (c.in-Some.at, c.in-Some.found) c.in-Some.ensures c.if-found-key.true

pub returns-else-found-key : goal.returns-else-found-key
returns-else-found-key g c =
    searched_other (keys_from c.keys-width.result.0 c.keys-width.result.3 c.keys-width.result.2 c.keys-width.result.1.now) (keys_of c.args.self.now.pairs) c.keys-width.ensures.same
    (subst (IsStrictlySortedBy word_order) c.keys-width.ensures.same c.keys-width.ensures.ascending) c.args.key (c.in-Some.at, c.in-Some.found) c.in-Some.ensures c.if-found-key.false

pub returns-in-None : goal.returns-in-None
returns-in-None g c =
    searched_none (keys_from c.keys-width.result.0 c.keys-width.result.3 c.keys-width.result.2 c.keys-width.result.1.now) (keys_of c.args.self.now.pairs) c.keys-width.ensures.same
    (subst (IsStrictlySortedBy word_order) c.keys-width.ensures.same c.keys-width.ensures.ascending) c.args.key c.keys-width.result.3 c.in-None.ensures
    (c.keys-width.ensures.count ∙ sym (length-keys_of c.args.self.now.pairs))
