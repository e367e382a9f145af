use Rattle.std.proofs.Common.{ap, ◌∙◌}
use Rattle.std.specs.FinMap.{from_sorted}
use Rattle.judy_model.specs.Keys.{word_order}
use Rattle.judy_model.proofs.lemmas.maps.SortedMaps.{from_sorted-nil}
use Rattle.judy_sums.specs.Chunks.{joined}
use Rattle.judy_sums.proofs.sums.Sums.new.Goals as goal

pub returns : goal.returns
returns c = ap from_sorted (ap joined c.new.ensures) ∙ from_sorted-nil word_order
