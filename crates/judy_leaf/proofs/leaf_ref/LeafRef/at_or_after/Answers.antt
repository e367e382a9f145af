use Rattle.std.proofs.Common.{subst, ◌∙◌}
use Rattle.std.specs.List.Sorted.{IsStrictlySortedBy}
use Rattle.judy_model.specs.Keys.{word_order}
use Rattle.judy_leaf.proofs.Nearest.{place_inside, next_is, next_is_none}
use Rattle.judy_leaf.proofs.leaf_ref.LeafRef.at_or_after.Goals as goal

pub value_at-requires : goal.value_at-requires
value_at-requires g c =
    place_inside (record { same = c.keys-width.ensures.same; ascending = subst (IsStrictlySortedBy word_order) c.keys-width.ensures.same c.keys-width.ensures.ascending }) c.args.number
    (c.in_ok-at.at, c.in_ok-at.key) c.in_ok-at.ensures.key

pub returns : goal.returns
returns g c =
    next_is (record { same = c.keys-width.ensures.same; ascending = subst (IsStrictlySortedBy word_order) c.keys-width.ensures.same c.keys-width.ensures.ascending }) c.args.number
    (c.in_ok-at.at, c.in_ok-at.key) c.value_at.result c.in_ok-at.ensures c.value_at.ensures

pub returns-in_err-at : goal.returns-in_err-at
returns-in_err-at g c =
    c.from_residual.ensures ∙ next_is_none (record {
      same = c.keys-width.ensures.same;
      ascending = subst (IsStrictlySortedBy word_order) c.keys-width.ensures.same c.keys-width.ensures.ascending;
    }) c.args.number c.keys-width.result.3 c.in_err-at.ensures c.keys-width.ensures.count
