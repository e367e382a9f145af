-- A list that is mapped a group at a time, each group written behind those before it.
use Rattle.std.proofs.Common.{◌≡◌, ℕ, ◌-◌, ◌≤◌, List, ◌++◌, length, map, take, drop, sym, ap, ◌∙◌, arith}
use Rattle.std.proofs.lemmas.List.{map-append, length-map, length-drop, length-take-le, take-append-drop, take-take}
use Rattle.std.proofs.lemmas.Slice.{between_is, take-put_mid}
use Rattle.std.specs.List.{slice_range}
use borrow.Rule.Slice.PartMut.{put_mid}

module _ {X Y : Type 0} (f : X → Y) (xs : List X) (ys part : List Y) (at end : ℕ) where
  joined : at ≤ end → take at xs ++ slice_range xs at end ≡ take end xs
  joined up = (λ j. sym (take-take at end xs up) j ++ between_is xs at end j) ∙ take-append-drop at (take end xs)

  -- What stands in front of the group's end, once the group is written.
  pub group_more : at ≤ end → end ≤ length xs → length ys ≡ length xs → take at ys ≡ map f (take at xs) → part ≡ map f (slice_range xs at end)
      → take end (put_mid at (end - at) ys part) ≡ map f (take end xs)
  group_more up within long before told =
      let rest = length-drop at xs in
      let size : length part ≡ end - at = ap length told ∙ length-map (slice_range xs at end) f ∙ length-take-le (end - at) (drop at xs) (omega arith) in
      take-put_mid at (end - at) ys part end (omega arith) (omega arith)
      ∙ (λ j. before j ++ told j)
      ∙ sym (map-append f (take at xs) (slice_range xs at end))
      ∙ ap (map f) (joined up)
