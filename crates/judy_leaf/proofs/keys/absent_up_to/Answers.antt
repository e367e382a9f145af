use Rattle.std.proofs.Common.{drop, arith}
use Rattle.judy_leaf.proofs.AbsentRuns.{last_at}
use Rattle.judy_leaf.proofs.keys.absent_up_to.Goals as goal

pub returns-in-1 : goal.returns-in-1
returns-in-1 c =
    last_at c.args.width 1 c.args.count c.words_from.result.now (drop c.args.start c.args.block.now.words) c.args.number c.absent_up_to_in.result c.in-1.is
    c.words_from.ensures.words c.absent_up_to_in.ensures

pub returns-in-2 : goal.returns-in-2
returns-in-2 c =
    last_at c.args.width 2 c.args.count c.words_from-in-2.result.now (drop c.args.start c.args.block.now.words) c.args.number c.absent_up_to_in-in-2.result
    c.in-2.is c.words_from-in-2.ensures.words c.absent_up_to_in-in-2.ensures

pub returns-in-3 : goal.returns-in-3
returns-in-3 c =
    last_at c.args.width 3 c.args.count c.words_from-in-3.result.now (drop c.args.start c.args.block.now.words) c.args.number c.absent_up_to_in-in-3.result
    c.in-3.is c.words_from-in-3.ensures.words c.absent_up_to_in-in-3.ensures

pub returns-in-4 : goal.returns-in-4
returns-in-4 c =
    last_at c.args.width 4 c.args.count c.words_from-in-4.result.now (drop c.args.start c.args.block.now.words) c.args.number c.absent_up_to_in-in-4.result
    c.in-4.is c.words_from-in-4.ensures.words c.absent_up_to_in-in-4.ensures

pub returns-in-5 : goal.returns-in-5
returns-in-5 c =
    last_at c.args.width 5 c.args.count c.words_from-in-5.result.now (drop c.args.start c.args.block.now.words) c.args.number c.absent_up_to_in-in-5.result
    c.in-5.is c.words_from-in-5.ensures.words c.absent_up_to_in-in-5.ensures

pub returns-in-6 : goal.returns-in-6
returns-in-6 c =
    last_at c.args.width 6 c.args.count c.words_from-in-6.result.now (drop c.args.start c.args.block.now.words) c.args.number c.absent_up_to_in-in-6.result
    c.in-6.is c.words_from-in-6.ensures.words c.absent_up_to_in-in-6.ensures

pub returns-in-7 : goal.returns-in-7
returns-in-7 c =
    last_at c.args.width 7 c.args.count c.words_from-in-7.result.now (drop c.args.start c.args.block.now.words) c.args.number c.absent_up_to_in-in-7.result
    c.in-7.is c.words_from-in-7.ensures.words c.absent_up_to_in-in-7.ensures

pub returns-in_default : goal.returns-in_default
returns-in_default c =
    last_at c.args.width 8 c.args.count c.words_from-in_default.result.now (drop c.args.start c.args.block.now.words) c.args.number c.absent_up_to_in-in_default.result
    (omega (arith, c.requires.keys.packed.is_width.some, c.requires.keys.packed.is_width.most, c.in_default)) c.words_from-in_default.ensures.words c.absent_up_to_in-in_default.ensures
