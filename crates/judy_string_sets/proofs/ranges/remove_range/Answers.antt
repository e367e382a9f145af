use Rattle.std.proofs.Common.{◌≡◌, ℕ, IfOk, OnOk, subst}
use Rattle.judy_model.specs.Arrays.{with_map}
use Rattle.judy_string_sets.specs.Walks.{Strings}
use Rattle.judy_string_sets.proofs.EndFacts.{up_to_last, count_range, outside_range}
use Rattle.judy_string_sets.proofs.ranges.remove_range.Goals as goal

pub remove_keys-requires-clause-front : goal.remove_keys-requires-clause-front
remove_keys-requires-clause-front g c = up_to_last c.args.from.now c.args.to.now

pub returns-clause-count : goal.returns-clause-count
returns-clause-count g c =
    subst (λ (n : ℕ). IfOk c.remove_keys.result (λ count. count ≡ n)) (count_range c.args.array.now.map c.args.from.now c.args.to.now) c.remove_keys.ensures.count

pub returns-clause-left : goal.returns-clause-left
returns-clause-left g c =
    subst (λ (map : Strings). OnOk c.remove_keys.result (c.remove_keys.new.array ≡ with_map c.args.array.now map)) (outside_range c.args.array.now.map c.args.from.now c.args.to.now)
    c.remove_keys.ensures.left
