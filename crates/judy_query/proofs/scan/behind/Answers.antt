use Rattle.std.proofs.Common.{◌<◌, ap, sym, ◌∙◌, subst, Some}
use Rattle.std.proofs.lemmas.Option.{slice_get-get_or}
use Rattle.judy_leaf.specs.KeyLists.{keys_of}
use Rattle.judy_leaf.proofs.LeafLists.{length-keys_of}
use Rattle.judy_leaf.proofs.NextKeys.{rank_behind}
use Rattle.judy_query.proofs.scan.behind.Goals as goal

pub returns : goal.returns
returns g c =
    let keys = keys_of c.args.list.now.pairs in
    rank_behind keys c.args.at c.key_at.result c.law.ensures.ascending
    (slice_get-get_or keys c.args.at 0 (subst (λ n. c.args.at < n) (sym (length-keys_of c.args.list.now.pairs)) c.requires) ∙ ap Some (sym c.key_at.ensures.key))
