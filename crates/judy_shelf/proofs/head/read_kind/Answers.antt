use Rattle.std.proofs.Common.{sym, subst}
use Rattle.judy_model.specs.DumpGrammar as grammar
use Rattle.judy_shelf.specs.Writes.{kind_number}
use Rattle.judy_shelf.specs.Reads.{drawn, Reads}
use Rattle.judy_shelf.proofs.HeadLemmas.{kind_told}
use Rattle.judy_shelf.proofs.head.read_kind.Goals as goal

pub returns : goal.returns
returns g c =
    let before = drawn (g.R.Source.given c.args.source.now) (g.R.Source.ended c.args.source.now) (g.R.Source.tally c.args.source.now).failures in
    let after = drawn (g.R.Source.given c.read_u8.new.source) (g.R.Source.ended c.read_u8.new.source) (g.R.Source.tally c.read_u8.new.source).failures in
    subst (λ r. Reads kind_number grammar.kind before r after) (sym c.ok_or.ensures.value) (kind_told c.in_ok-number.number before after c.in_ok-number.ensures
    c.kind_of_number.result c.kind_of_number.ensures)
