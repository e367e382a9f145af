use Rattle.std.proofs.Common.{◌+◌, ◌*◌, ◌^◌, ◌<◌, sym, subst, arith}
use Rattle.judy_leaf.proofs.WordSteps.{put_fits, put_all, put_word, put_places, put_tight}
use Rattle.judy_leaf.proofs.place.with_key.Goals as goal

pub moved_up-requires-clause-within : goal.moved_up-requires-clause-within
moved_up-requires-clause-within g c = (put_fits g.row.W c.requires.width c.args.word c.args.at c.args.key c.requires.inside c.requires.below c.requires.tight
    c.without_low.result c.low_part-above.result c.without_low.ensures c.low_part-above.ensures).0

pub overflow_add-key : goal.overflow_add-key
overflow_add-key g c =
    let moved = c.moved_up.ensures in let fit = (put_fits g.row.W c.requires.width c.args.word c.args.at c.args.key c.requires.inside c.requires.below c.requires.tight
    c.without_low.result c.low_part-above.result c.without_low.ensures c.low_part-above.ensures).1 in omega arith

pub moved_up-requires-2-clause-within : goal.moved_up-requires-2-clause-within
moved_up-requires-2-clause-within g c =
    subst (λ n. (c.args.key + n) * 256 ^ (g.row.W * c.args.at) < 2 ^ 64) (sym c.moved_up.ensures) (put_fits g.row.W c.requires.width c.args.word c.args.at c.args.key
    c.requires.inside c.requires.below c.requires.tight c.without_low.result c.low_part-above.result c.without_low.ensures c.low_part-above.ensures).2

pub overflow_add-result : goal.overflow_add-result
overflow_add-result g c =
    let all = put_all g.row.W c.requires.width c.args.word c.args.at c.args.key c.requires.inside c.requires.below c.requires.tight c.without_low.result
    c.low_part-above.result c.moved_up.result c.moved_up-2.result c.low_part.result c.without_low.ensures c.low_part-above.ensures c.moved_up.ensures c.moved_up-2.ensures c.low_part.ensures in
    let fit = put_word g.row.W c.requires.width c.args.word c.args.at c.args.key c.requires.inside c.requires.below c.requires.tight in
    omega arith

pub returns-clause-places : goal.returns-clause-places
returns-clause-places g c =
    put_places g.row.W c.requires.width c.args.word c.args.at c.args.key c.requires.inside c.requires.below c.requires.tight _
    (put_all g.row.W c.requires.width c.args.word c.args.at c.args.key c.requires.inside c.requires.below c.requires.tight c.without_low.result c.low_part-above.result
    c.moved_up.result c.moved_up-2.result c.low_part.result c.without_low.ensures c.low_part-above.ensures c.moved_up.ensures c.moved_up-2.ensures c.low_part.ensures)

pub returns-clause-tight : goal.returns-clause-tight
returns-clause-tight g c =
    put_tight g.row.W c.requires.width c.args.word c.args.at c.args.key c.requires.inside c.requires.below c.requires.tight _
    (put_all g.row.W c.requires.width c.args.word c.args.at c.args.key c.requires.inside c.requires.below c.requires.tight c.without_low.result c.low_part-above.result
    c.moved_up.result c.moved_up-2.result c.low_part.result c.without_low.ensures c.low_part-above.ensures c.moved_up.ensures c.moved_up-2.ensures c.low_part.ensures)
