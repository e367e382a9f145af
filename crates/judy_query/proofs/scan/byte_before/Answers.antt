use Rattle.std.proofs.Common.{◌-◌, sym, subst, arith}
use Rattle.judy_query.specs.Walks.{IsScan}
use Rattle.judy_query.proofs.EndFacts.{bits_inside}
use Rattle.judy_query.proofs.ScanFacts.{scan_first}
use Rattle.judy_query.proofs.scan.byte_before.Goals as goal

pub behind-requires : goal.behind-requires
behind-requires g c =
    let within = c.requires.within in
    let some = c.if-at-eq0.false in
    bits_inside g.V.Words.WORDS c.args.view.now c.in-BitLeaf.field-0 c.in-BitLeaf.list c.in-BitLeaf.is c.requires.shown (c.args.at - 1) (omega arith)

pub returns-then-at-eq0 : goal.returns-then-at-eq0
returns-then-at-eq0 g c =
    subst (λ at. IsScan c.args.view.now at 0) (sym c.if-at-eq0.true) (scan_first g.V.Words.WORDS c.args.view.now c.in-BitLeaf.field-0 c.in-BitLeaf.list c.in-BitLeaf.is c.requires.shown)
