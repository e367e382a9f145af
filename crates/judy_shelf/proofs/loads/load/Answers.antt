use Rattle.judy_model.specs.Fields.{◌>>=◌, done}
use Rattle.judy_model.specs.DumpGrammar as grammar
use Rattle.judy_shelf.specs.Shelves.{store_of}
use Rattle.judy_shelf.specs.Versions.{format_of}
use Rattle.judy_shelf.specs.Reads.{cause_of, counted}
use Rattle.judy_shelf.proofs.ReadLemmas.{fault_first}
use Rattle.judy_shelf.proofs.ArrayReads.{loaded_err, stopped_early, stopped_inside, read_up_to_end, loads_fault, loads_whole}
use Rattle.judy_shelf.proofs.loads.load.Goals as goal

pub returns-in_err-version : goal.returns-in_err-version
returns-in_err-version g c =
    let fault = c.in_err-version.field-0.0 in
    loaded_err _ _ fault c.from_residual.result c.from_residual.ensures.1
    (stopped_early _ _ (cause_of fault) (fault_first grammar.begins (λ version. counted version >>= λ made. done (version, made)) (cause_of fault) _ _ c.in_err-version.ensures))

pub returns-in_err-shelf : goal.returns-in_err-shelf
returns-in_err-shelf g c =
    let fault = c.in_err-shelf.field-0.0 in
    loaded_err _ _ fault c.from_residual-in_err-shelf.result c.from_residual-in_err-shelf.ensures.1
    (stopped_early _ _ (cause_of fault) (stopped_inside (format_of c.in_ok-version.version) _ _ _ c.in_ok-version.ensures (cause_of fault) c.in_err-shelf.ensures))

pub returns-in_err-read_end : goal.returns-in_err-read_end
returns-in_err-read_end g c =
    let version = format_of c.in_ok-version.version in
    let store = store_of c.in_ok-shelf.shelf in
    let fault = c.in_err-read_end.field-0.0 in
    loaded_err _ _ fault c.from_residual-in_err-read_end.result c.from_residual-in_err-read_end.ensures.1
    (loads_fault version store _ _ _ (read_up_to_end version store _ _ _ c.in_ok-version.ensures c.in_ok-shelf.ensures) (cause_of fault) c.in_err-read_end.ensures)

pub returns : goal.returns
returns g c =
    let version = format_of c.in_ok-version.version in
    let store = store_of c.in_ok-shelf.shelf in
    loads_whole version store _ _ _ (read_up_to_end version store _ _ _ c.in_ok-version.ensures c.in_ok-shelf.ensures) c.in_ok-read_end.ensures.0 c.in_ok-read_end.ensures.1 c.in_ok-read_end.ensures.2
