use Rattle.std.proofs.Common.{List, ℕ, Option, Some, subst}
use Rattle.judy_shelf.specs.Ones.{LoadedOne, bytes_with}
use Rattle.judy_shelf.specs.Reads.{drawn}
use Rattle.judy_saved.specs.Sources.{told_of}
use Rattle.judy_saved.proofs.LoadLemmas.{loaded_bytes}
use Rattle.judy_saved.proofs.loads.load_byte_strings.Goals as goal

pub returns-clause-read : goal.returns-clause-read
returns-clause-read g c =
    let begun = c.new-source.result in
    let source = c.load_one_byte_strings.new.source in
    loaded_bytes begun.ended c.args.bytes.now source.bytes.now source.given source.ended source.within source.ends_last 4 bytes_with c.load_one_byte_strings.result
    (subst (λ (given : Option (List ℕ)). LoadedOne 4 bytes_with (drawn given (Some begun.ended) 0) c.load_one_byte_strings.result (drawn (Some (told_of source.bytes.now source.given)) (Some
    source.ended) 0))
    c.new-source.ensures.given c.load_one_byte_strings.ensures.read)
