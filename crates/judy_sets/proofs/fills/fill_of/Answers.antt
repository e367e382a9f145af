use Rattle.std.proofs.lemmas.Result.{on_ok_weaker}
use Rattle.judy_sets.proofs.LookFacts.{common_filled, turned_filled}
use Rattle.judy_sets.proofs.fills.fill_of.Goals as goal

pub returns-then-are_few : goal.returns-then-are_few
returns-then-are_few g c =
    let keep = c.is_intersection.ensures c.if-is_intersection.true in
    on_ok_weaker c.put_common.result
    (common_filled g.V.Words.WORDS c.args.keep c.args.made.now c.put_common.new.made c.args.one.now.map c.args.other.now.map keep.0 keep.1 keep.2)
    c.put_common.ensures

pub returns-then-are_few-2 : goal.returns-then-are_few-2
returns-then-are_few-2 g c =
    let keep = c.is_intersection.ensures c.if-is_intersection.true in
    on_ok_weaker c.put_common-then-are_few-2.result
    (turned_filled g.V.Words.WORDS c.args.keep c.args.made.now c.put_common-then-are_few-2.new.made c.args.one.now.map c.args.other.now.map keep.0 keep.1 keep.2)
    c.put_common-then-are_few-2.ensures
