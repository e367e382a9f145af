use Rattle.std.proofs.Common.{sym, ◌∙◌, arith}
use Rattle.judy_query.proofs.AroundFacts.{above_place, above_absent}
use Rattle.judy_query.proofs.Finds.{place_inside, place_value, absent_value}
use Rattle.judy_query.proofs.surroundings.around_in_leaf.Goals as goal

pub value_at-requires : goal.value_at-requires
value_at-requires g c = place_inside c.args.list.now.pairs c.args.key c.len-count.ensures.list.ascending c.in-Ok.at c.in-Ok.ensures

pub overflow_add-at : goal.overflow_add-at
overflow_add-at g c =
    let inside = place_inside c.args.list.now.pairs c.args.key c.len-count.ensures.list.ascending c.in-Ok.at c.in-Ok.ensures in
    let few = c.len-count.ensures.within in
    let all = c.len-count.ensures.count in
    omega arith

pub returns-in-Ok : goal.returns-in-Ok
returns-in-Ok g c = record {
  value = place_value c.args.list.now.pairs c.args.key c.len-count.ensures.list.ascending c.in-Ok.at c.value_at.result c.in-Ok.ensures c.value_at.ensures;
  above = c.pair_on.ensures ∙ above_place c.args.list.now.pairs c.len-count.ensures.list.ascending c.args.key c.in-Ok.at c.in-Ok.ensures;
}

pub returns-in-Err : goal.returns-in-Err
returns-in-Err g c = record {
  value = sym (absent_value c.args.list.now.pairs c.args.key c.in-Err.ensures.0);
  above = c.pair_on-in-Err.ensures ∙ above_absent c.args.list.now.pairs c.len-count.ensures.list.ascending c.args.key c.in-Err.at c.in-Err.ensures.0 c.in-Err.ensures.1;
}
