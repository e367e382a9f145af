use Rattle.std.proofs.Common.{get_or, sym, arith}
use Rattle.judy_change.proofs.RootFacts.{two_filled, first_root, second_root, first_gone, second_gone, neither_kept}
use Rattle.judy_change.proofs.removals.remove_of_two.Goals as goal

pub fill-requires : goal.fill-requires
fill-requires g c = (omega arith, (c.requires.child, (sym c.requires.two, omega arith)))

pub returns-then-first-key : goal.returns-then-first-key
returns-then-first-key g c =
    let out = c.fill.new.out in
    let two = two_filled out c.args.child.pairs c.fill.ensures c.requires.two in
    record {
      root = second_root g.V.Words.WORDS c.args.key c.args.child (get_or out 0 (0, 0)) (get_or out 1 (0, 0)) two c.requires.child.map;
      removed = first_gone g.V.Words.WORDS c.args.key c.args.child (get_or out 0 (0, 0)) (get_or out 1 (0, 0)) two c.requires.child.map c.gone.result c.if-first-key.true c.gone.ensures;
    }

pub returns-then-second-key : goal.returns-then-second-key
returns-then-second-key g c =
    let out = c.fill.new.out in
    let two = two_filled out c.args.child.pairs c.fill.ensures c.requires.two in
    record {
      root = first_root g.V.Words.WORDS c.args.key c.args.child (get_or out 0 (0, 0)) (get_or out 1 (0, 0)) two c.requires.child.map;
      removed =
          second_gone g.V.Words.WORDS c.args.key c.args.child (get_or out 0 (0, 0)) (get_or out 1 (0, 0)) two c.requires.child.map c.gone-then-second-key.result
          c.if-first-key.false c.if-second-key.true c.gone-then-second-key.ensures;
    }

pub returns-clause-root : goal.returns-clause-root
returns-clause-root g c =
    let two = c.requires.two in
    (c.requires.child, omega arith)

pub returns-clause-removed : goal.returns-clause-removed
returns-clause-removed g c =
    let out = c.fill.new.out in
    let two = two_filled out c.args.child.pairs c.fill.ensures c.requires.two in
    neither_kept g.V.Words.WORDS c.args.key c.args.child (get_or out 0 (0, 0)) (get_or out 1 (0, 0)) two c.requires.child.map c.none.result c.if-first-key.false c.if-second-key.false c.none.ensures
