use Rattle.judy_model.specs.DumpGrammar as grammar
use Rattle.judy_shelf.specs.Reads.{drawn}
use Rattle.judy_shelf.proofs.EntryReads.{Filling, word_keys}
use Rattle.judy_shelf.proofs.loads.read_set.Given as goal

-- so far these entries were read, and the array holds them
abbrev pub invariant-keys : goal.invariant-keys
invariant-keys g l =
    Filling word_keys (λ before. grammar.word) grammar.no_value l.fn.set.limit l.counter l.before l.set
    (drawn (g.R.Source.given l.fn.source) (g.R.Source.ended l.fn.source) (g.R.Source.tally l.fn.source).failures)
    (drawn (g.R.Source.given l.source) (g.R.Source.ended l.source) (g.R.Source.tally l.source).failures)
