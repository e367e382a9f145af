use Rattle.std.proofs.Common.{◌∙◌, sym}
use Rattle.judy_shelf.proofs.NumberLemmas.{from_be_8, number_read, number_stopped}
use Rattle.judy_shelf.proofs.fields.read_u64.Goals as goal

pub returns-in_err-read_bytes : goal.returns-in_err-read_bytes
returns-in_err-read_bytes g c = number_stopped 8 _ _ c.in_err-read_bytes.field-0.0 c.from_residual.result c.from_residual.ensures.1 c.in_err-read_bytes.ensures.read

pub returns : goal.returns
returns g c = number_read 8 c.read_bytes.new.room _ _ _ c.in_ok-read_bytes.ensures.read (from_be_8 c.read_bytes.new.room c.in_ok-read_bytes.ensures.len ∙ sym c.from_be_bytes.ensures)
