-- `retain_range`: a null handle has no key that goes.
use Rattle.std.proofs.Common.{ℕ, ap, sym}
use Rattle.std.specs.FinMap.{FinMap}
use Rattle.judy_model.specs.Keys.{word_order}
use Rattle.judy_model.specs.Ranges.{within}
use Rattle.judy_c.specs.Maps.{array_of}
use Rattle.judy_c.proofs.WordHandles.{nothing_goes, nothing_left_out, changed_held}
use Rattle.judy_c.proofs.ranges.retain_range.Goals as goal

pub returns-in-None-clause-count : goal.returns-in-None-clause-count
returns-in-None-clause-count g c = nothing_goes _ c.args.from c.args.to (ap array_of (sym c.in-None.ensures.value))

pub returns-in-None-clause-left : goal.returns-in-None-clause-left
returns-in-None-clause-left g c = nothing_left_out _ c.args.from c.args.to (ap array_of (sym c.in-None.ensures.value))

pub returns-in-Some-clause-left : goal.returns-in-Some-clause-left
returns-in-Some-clause-left g c =
    changed_held (λ (map : FinMap word_order ℕ). within map c.args.from c.args.to) _ _ c.in-Some.array.now c.retain_range.new.array
    (g.met.H.Handle.kept _) c.in-Some.ensures.value c.retain_range.ensures.left
