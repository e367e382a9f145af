use Rattle.std.proofs.Common.{◌+◌, ◌*◌, ◌^◌, ◌<◌, sym, subst, arith}
use Rattle.judy_leaf.proofs.WordSteps.{left_fits, left_all, left_word, left_places, left_tight}
use Rattle.judy_leaf.proofs.place.without_key.Goals as goal

pub moved_up-requires-clause-within : goal.moved_up-requires-clause-within
moved_up-requires-clause-within g c = (left_fits g.row.W c.requires.width c.args.word c.args.at c.args.last c.requires.inside c.requires.below c.requires.tight
    c.without_low.result c.without_low.ensures).0

pub overflow_add-above : goal.overflow_add-above
overflow_add-above g c =
    let moved = c.moved_up.ensures in let fit = (left_fits g.row.W c.requires.width c.args.word c.args.at c.args.last c.requires.inside c.requires.below
    c.requires.tight c.without_low.result c.without_low.ensures).1 in omega arith

pub moved_up-requires-2-clause-within : goal.moved_up-requires-2-clause-within
moved_up-requires-2-clause-within g c =
    subst (λ n. (c.without_low.result + n) * 256 ^ (g.row.W * c.args.at) < 2 ^ 64) (sym c.moved_up.ensures)
    (left_fits g.row.W c.requires.width c.args.word c.args.at c.args.last c.requires.inside c.requires.below c.requires.tight c.without_low.result c.without_low.ensures).2

pub overflow_add-result : goal.overflow_add-result
overflow_add-result g c =
    let all = left_all g.row.W c.requires.width c.args.word c.args.at c.args.last c.requires.inside c.requires.below c.requires.tight c.without_low.result
    c.moved_up.result c.moved_up-2.result c.low_part.result c.without_low.ensures c.moved_up.ensures c.moved_up-2.ensures c.low_part.ensures in
    let fit = left_word g.row.W c.requires.width c.args.word c.args.at c.args.last c.requires.inside c.requires.below c.requires.tight in
    omega arith

pub returns-clause-places : goal.returns-clause-places
returns-clause-places g c =
    left_places g.row.W c.requires.width c.args.word c.args.at c.args.last c.requires.inside c.requires.below c.requires.tight _
    (left_all g.row.W c.requires.width c.args.word c.args.at c.args.last c.requires.inside c.requires.below c.requires.tight c.without_low.result c.moved_up.result
    c.moved_up-2.result c.low_part.result c.without_low.ensures c.moved_up.ensures c.moved_up-2.ensures c.low_part.ensures)

pub returns-clause-tight : goal.returns-clause-tight
returns-clause-tight g c =
    left_tight g.row.W c.requires.width c.args.word c.args.at c.args.last c.requires.inside c.requires.below c.requires.tight _
    (left_all g.row.W c.requires.width c.args.word c.args.at c.args.last c.requires.inside c.requires.below c.requires.tight c.without_low.result c.moved_up.result
    c.moved_up-2.result c.low_part.result c.without_low.ensures c.moved_up.ensures c.moved_up-2.ensures c.low_part.ensures)
