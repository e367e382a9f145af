use Rattle.std.proofs.Common.{◌≡◌, ◌↔◌, IsTrue, subst}
use Rattle.std.specs.FinMap.{empty}
use Rattle.judy_string_sets.specs.Walks.{Strings, picked}
use Rattle.judy_string_sets.proofs.RelationFacts.{none_found}
use Rattle.judy_string_sets.proofs.relations.has_none.Goals as goal

pub returns : goal.returns
returns g c =
    let which = c.args.which in
    let other = c.args.other.now.map in
    subst (λ (w : Strings). IsTrue c.is_none.result ↔ (picked which w other ≡ empty)) c.of-keys.ensures
    (none_found c.next_of.result c.is_none.result (picked which c.of-keys.result.map other) c.next_of.new.keys.key (picked which c.next_of.new.keys.map other) c.next_of.ensures c.is_none.ensures)
