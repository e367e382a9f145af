use Rattle.std.proofs.Common.{List, ℕ, Option, Some, subst}
use Rattle.judy_shelf.specs.Ones.{LoadedOne, map_with}
use Rattle.judy_shelf.specs.Reads.{drawn}
use Rattle.judy_saved.specs.Sources.{told_of}
use Rattle.judy_saved.proofs.LoadLemmas.{loaded_bytes}
use Rattle.judy_saved.proofs.loads.load_map.Goals as goal

pub returns-clause-read : goal.returns-clause-read
returns-clause-read c =
    let begun = c.new-source.result in
    let source = c.load_one_map.new.source in
    loaded_bytes begun.ended c.args.bytes.now source.bytes.now source.given source.ended source.within source.ends_last 2 map_with c.load_one_map.result
    (subst (λ (given : Option (List ℕ)). LoadedOne 2 map_with (drawn given (Some begun.ended) 0) c.load_one_map.result (drawn (Some (told_of source.bytes.now source.given)) (Some source.ended) 0))
    c.new-source.ensures.given c.load_one_map.ensures.read)
