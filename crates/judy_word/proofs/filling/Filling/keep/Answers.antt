use Rattle.std.proofs.Common.{ℕ, [], ◌∷◌, ap, ◌∙◌}
use Rattle.std.specs.FinMap.{FinMap}
use Rattle.judy_model.specs.Keys.{word_order}
use Rattle.judy_node.specs.Trees.{Pairs}
use Rattle.judy_word.specs.Held.{map_in, with_all, with_new}
use Rattle.judy_word.proofs.FrontFacts.{with_all-append}
use Rattle.judy_word.proofs.filling.Filling.keep.Goals as goal

pub returns-clause-put : goal.returns-clause-put
returns-clause-put g c =
    let tree = c.make_way.new.tree in
    rw (← c.self.view_is)
    (ap (λ (limit : ℕ). record { limit = limit; map = with_all (map_in tree) c.push_last.new.kept.items }) c.make_way.ensures.limit
    ∙ ap (λ (map : FinMap word_order ℕ). record { limit = c.self.inside.tree.limit; map = map })
    (ap (λ (kept : Pairs). with_all (map_in tree) kept) c.in_ok-push_last.ensures.pushed
    ∙ with_all-append (map_in tree) c.make_way.new.kept.items ((c.args.key, c.args.value) ∷ [])
    ∙ ap (λ (map : FinMap word_order ℕ). with_new map c.args.key c.args.value) c.make_way.ensures.same))
