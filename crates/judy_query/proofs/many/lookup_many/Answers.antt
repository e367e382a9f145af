use Rattle.std.proofs.Common.{◌^◌, map, ◌∙◌, sym, ap}
use Rattle.judy_query.specs.Ends.{value_at}
use Rattle.judy_query.proofs.Links.{get_is}
use Rattle.judy_query.proofs.many.lookup_many.Goals as goal

pub returns-clause-values : goal.returns-clause-values
returns-clause-values g c =
    let pairs = c.args.tree.now.pairs in
    c.look_into.ensures
    ∙ ap (map value_at) c.deref.ensures.0
    ∙ c.go_down.ensures.values
    ∙ (λ j. map (λ key. sym (get_is g.V.Words.WORDS (256 ^ 8) pairs c.law.ensures.map key) j) c.args.keys.now)
