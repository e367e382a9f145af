use Rattle.std.proofs.Common.{length, subst}
use Rattle.judy_query.specs.Turns.{IsPlaceBeside}
use Rattle.judy_query.proofs.TurnSides.{turn_kept, turn_made, turn_nearest}
use Rattle.judy_query.proofs.turns.turn_to.Goals as goal

pub returns-in-Some : goal.returns-in-Some
returns-in-Some g c =
    let there = subst (IsPlaceBeside c.args.side (length c.args.branch.now.children.items) c.args.step) c.in-Some.is c.place_beside.ensures in
    record {
      turn =
          turn_made g.V.Words.WORDS c.args.before (record { branch = c.args.branch; place = c.in-Some.place; base = c.args.base; edge = c.edge.result }) c.args.step
          c.requires.branch c.requires.inside c.requires.fits c.args.side c.edge.ensures c.requires.step there;
      pair =
          turn_nearest g.V.Words.WORDS c.args.before (record { branch = c.args.branch; place = c.in-Some.place; base = c.args.base; edge = c.edge.result })
          c.args.step c.requires.branch c.requires.inside c.requires.fits c.args.side there;
    }

pub returns-in-None : goal.returns-in-None
returns-in-None g c =
    let none = subst (IsPlaceBeside c.args.side (length c.args.branch.now.children.items) c.args.step) c.in-None.is c.place_beside.ensures in
    record {
      turn = c.requires.before;
      pair = turn_kept g.V.Words.WORDS c.args.branch.now c.args.step c.args.base c.args.side c.args.before c.requires.branch none;
    }
