use Rattle.judy_model.specs.DumpGrammar as grammar
use Rattle.judy_shelf.specs.Reads.{drawn}
use Rattle.judy_shelf.specs.LastKeys.{last_key}
use Rattle.judy_shelf.specs.Versions.{format_of}
use Rattle.judy_shelf.proofs.EntryReads.{Filling, string_keys}
use Rattle.judy_shelf.proofs.loads.read_strings.Given as goal

-- so far these entries were read, and the array holds them
abbrev pub invariant-keys : goal.invariant-keys
invariant-keys g l =
    Filling string_keys (grammar.string_key (format_of l.version)) grammar.word l.fn.strings.limit l.counter (last_key l.last) l.strings
    (drawn (g.R.Source.given l.fn.source) (g.R.Source.ended l.fn.source) (g.R.Source.tally l.fn.source).failures)
    (drawn (g.R.Source.given l.source) (g.R.Source.ended l.source) (g.R.Source.tally l.source).failures)
