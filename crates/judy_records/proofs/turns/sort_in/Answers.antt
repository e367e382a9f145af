use Rattle.std.proofs.Common.{◌<◌, sym, subst, arith}
use Rattle.judy_records.specs.InTurns.{AreTurned, AreExchanged}
use Rattle.judy_records.proofs.TurnOrders.{exchanged-same, exchanged-on, exchanged-within}
use Rattle.judy_records.proofs.turns.sort_in.Goals as goal
use Rattle.judy_records.proofs.turns.sort_in.Goals.{then-turn-was+then-was-end, else-turn-was}

pub loop-page-init : goal.loop-page-init
loop-page-init c = record { least = omega arith; turned = c.requires.turned; exchanged = exchanged-same c.args.start c.args.end c.args.row.now }

pub loop-page-preserved : goal.loop-page-preserved
loop-page-preserved c =
    let start = c.args.start in
    let end = c.args.end in
    let row = c.loop-page.row in
    let known = c.loop-page.invariant in
    elim c.if-turn-was.branch [
      | then-turn-was+then-was-end w ↦
          let turn = c.loop-page.turn in
          let page = c.loop-page.page in
          let long = w.exchange_in.auto.row in
          let kept = c.loop-page.auto.row in
          let least = known.least in
          let high : turn < end = omega (arith, w.if-turn-was.true, w.if-was-end.true) in
          let step = exchanged-within row w.exchange_in.new.row known.turned long page turn (omega (arith, high, c.requires.end, kept)) w.exchange_in.ensures.here
          w.exchange_in.ensures.other w.exchange_in.ensures.elsewhere start end least high (omega (arith, least, w.if-turn-was.true)) w.if-was-end.true in
          record {
            least = (let is = w.turn-is in omega (arith, is, least));
            turned = subst AreTurned (sym w.row-is) w.exchange_in.ensures.turned;
            exchanged = subst (λ row. AreExchanged start end c.args.row.now row) (sym w.row-is)
                (exchanged-on start end c.args.row.now row w.exchange_in.new.row known.exchanged step);
          }
      | else-turn-was w ↦ record {
        least = (let is = w.turn-is in let least = known.least in omega (arith, is, least));
        turned = subst AreTurned (sym w.row-is) known.turned;
        exchanged = subst (λ row. AreExchanged start end c.args.row.now row) (sym w.row-is) known.exchanged;
      }
    ]
