-- The members of a set of bytes as they are kept.
use Rattle.std.specs.Prelude.{ℕ, ◌≤◌, List, length}
use Rattle.judy_bits.specs.FrontCounts.{AreFronts}
use Rattle.judy_bits.specs.declared.byte_set.Members.{Members}
use Rattle.judy_bits.specs.declared.byte_set.Members.TheVariants.{Linear, Bitmap, Full}

-- The members themselves.
abbrev pub members_in : Members → List ℕ
members_in (Linear few) = few
members_in (Bitmap fronts bits) = bits
members_in (Full fronts bits) = bits

-- They are as many as their form is for, and what is counted beside bits is so.
abbrev pub IsInForm : Members → Type 0
IsInForm (Linear few) = length few ≤ 7
IsInForm (Bitmap fronts bits) = (8 ≤ length bits) × (length bits ≤ 127) × AreFronts fronts.counts bits
IsInForm (Full fronts bits) = (128 ≤ length bits) × AreFronts fronts.counts bits
