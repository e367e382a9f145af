-- The pairs of two nodes, written out.
use Rattle.std.proofs.Common.{◌≡◌, ℕ, ◌+◌, ◌^◌, ◌≤◌, length, sym, ap, subst, arith}
use Rattle.judy_node.specs.Trees.{IsMap}
use Rattle.judy_combine.specs.Merges.{Pairs}

-- Both are maps, and there is room for both.
pub both_ready : (words width : ℕ) (ours theirs left right : Pairs) (room : ℕ) → left ≡ ours → right ≡ theirs → IsMap words 0 (256 ^ width) ours → IsMap words 0 (256 ^ width) theirs
    → length ours + length theirs ≤ room → IsMap words 0 (256 ^ width) left × (IsMap words 0 (256 ^ width) right × (length left + length right ≤ room))
both_ready words width ours theirs left right room same other_same map other_map fits = (
  subst (IsMap words 0 (256 ^ width)) (sym same) map,
  (subst (IsMap words 0 (256 ^ width)) (sym other_same) other_map, (let one = ap length same in let other = ap length other_same in omega arith)),
)
