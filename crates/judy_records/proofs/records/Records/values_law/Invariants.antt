use Rattle.std.proofs.Common.{◌<◌, ℕ}
use Rattle.judy_model.specs.Keys.{IsWord}
use Rattle.judy_records.specs.Spots.{IsHeld, value_of}
use Rattle.judy_records.specs.PageSpots.{spot_in}
use Rattle.judy_records.specs.Inside.{page_at}
use Rattle.judy_records.proofs.records.Records.values_law.Given as goal

abbrev pub invariant-loop-page : goal.invariant-loop-page
invariant-loop-page l = (number at : ℕ) → number < l.page-index → IsHeld (spot_in (page_at l.page-items number) at) → IsWord (value_of (spot_in (page_at l.page-items number) at))
