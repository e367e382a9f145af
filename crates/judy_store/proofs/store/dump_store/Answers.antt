use Rattle.std.proofs.Common.{◌≡◌, ◌+◌, ◌≤◌, length, take, sym, ap, ◌∙◌, arith}
use Rattle.std.proofs.Math.Seq.{take-length}
use Rattle.judy_model.specs.DumpText.{dump_of}
use Rattle.judy_pipe.specs.Pipe.{grown}
use Rattle.judy_shelf.specs.Shelves.{store_of}
use Rattle.judy_store.specs.Formats.{version_of}
use Rattle.judy_store.proofs.store.dump_store.Goals as goal

pub returns-in-Err-clause-dumped : goal.returns-in-Err-clause-dumped
returns-in-Err-clause-dumped g c =
    let text = dump_of (version_of c.args.format) (store_of c.args.shelf.now) in (
      (length text, omega arith, c.flush.ensures.taken ∙ c.in_ok-dump_format.ensures.0 ∙ ap (grown (g.W.Sink.taken c.args.sink.now)) (sym (take-length text))),
      c.in-Err.ensures.failures ∙ ap (λ failures. failures + 1) c.in_ok-dump_format.ensures.1,
    )
