use Rattle.std.proofs.Common.{List, ℕ, Option, Some, subst}
use Rattle.judy_shelf.specs.Ones.{LoadedOne, strings_with}
use Rattle.judy_shelf.specs.Reads.{drawn}
use Rattle.judy_saved.specs.Sources.{told_of}
use Rattle.judy_saved.proofs.LoadLemmas.{loaded_bytes}
use Rattle.judy_saved.proofs.loads.load_strings.Goals as goal

pub returns-clause-read : goal.returns-clause-read
returns-clause-read c =
    let begun = c.new-source.result in
    let source = c.load_one_strings.new.source in
    loaded_bytes begun.ended c.args.bytes.now source.bytes.now source.given source.ended source.within source.ends_last 3 strings_with c.load_one_strings.result
    (subst (λ (given : Option (List ℕ)). LoadedOne 3 strings_with (drawn given (Some begun.ended) 0) c.load_one_strings.result (drawn (Some (told_of source.bytes.now source.given)) (Some
    source.ended) 0))
    c.new-source.ensures.given c.load_one_strings.ensures.read)
