-- The order of byte strings, place by place.
use Rattle.std.proofs.Common.{◌≡◌, ◌≢◌, ◌⊎◌, ◌↔◌, ℕ, ◌<◌, inl, inr, List, [], ◌∷◌, ◌++◌, refl, sym, ap, ◌∙◌, ⊎_elim, arith, Ordering, Less, Equal, Greater, nat_cmp}
use Rattle.std.specs.List.{AllByRecursion}
use Rattle.std.specs.Ordering.{ordering_then, ordering_reverse, is_lt}
use Rattle.std.specs.Cmp.{nat_cmp_total, nat_cmp_is, tied_itself}
use Rattle.std.specs.Cmp.Lexicographic.{nat_list_cmp_total}
use Rattle.std.specs.FinMap.{nat_cmp-IsAntisymmetric, slice_cmp-IsAntisymmetric}
use Rattle.std.proofs.lemmas.List.Elements.{recursion_from_All}
use Rattle.judy_model.specs.Keys.{IsStringKey, byte_order}
use Rattle.judy_model.specs.StringOrder.{DiffersBelow, IsProperPrefix, ended_by_zero}
use Rattle.judy_model.proofs.lemmas.orders.WordOrder.{less_word, lt_from_word}

-- a front that both share changes nothing
shared : (front left right : List ℕ) → byte_order (front ++ left) (front ++ right) ≡ byte_order left right
shared [] left right = refl
shared (byte ∷ front) left right =
    ap (λ answer. ordering_then answer (byte_order (front ++ left) (front ++ right))) (tied_itself nat_cmp_total byte) ∙ shared front left right

-- the smaller byte decides
decides : (left_byte right_byte : ℕ) (left right : List ℕ) → left_byte < right_byte → byte_order (left_byte ∷ left) (right_byte ∷ right) ≡ Less
decides left_byte right_byte left right below = ap (λ answer. ordering_then answer (byte_order left right)) (less_word left_byte right_byte below)

DiffersBelow-Less : (left right : List ℕ) → DiffersBelow left right → byte_order left right ≡ Less
DiffersBelow-Less left right differ =
    ap (λ bytes. byte_order bytes right) differ.left_is ∙ ap (byte_order (differ.front ++ differ.left_byte ∷ differ.left_rest)) differ.right_is
    ∙ shared differ.front (differ.left_byte ∷ differ.left_rest) (differ.right_byte ∷ differ.right_rest)
    ∙ decides differ.left_byte differ.right_byte differ.left_rest differ.right_rest differ.below

prefix_is_less : (left : List ℕ) (byte : ℕ) (rest : List ℕ) → byte_order left (left ++ byte ∷ rest) ≡ Less
prefix_is_less [] byte rest = refl
prefix_is_less (first ∷ left) byte rest =
    ap (λ answer. ordering_then answer (byte_order left (left ++ byte ∷ rest))) (tied_itself nat_cmp_total first) ∙ prefix_is_less left byte rest

IsProperPrefix-Less : (left right : List ℕ) → IsProperPrefix left right → byte_order left right ≡ Less
IsProperPrefix-Less left right prefix = ap (byte_order left) prefix.goes_on ∙ prefix_is_less left prefix.byte prefix.rest

-- two bytes at the first place, and what the rests do where they are one
DiffersBelow-here : (left_byte right_byte : ℕ) (left right : List ℕ) → left_byte < right_byte → DiffersBelow (left_byte ∷ left) (right_byte ∷ right)
DiffersBelow-here left_byte right_byte left right below =
    record { front = []; left_byte = left_byte; right_byte = right_byte; left_rest = left; right_rest = right; left_is = refl; right_is = refl; below = below }

DiffersBelow-later : (left_byte right_byte : ℕ) (left right : List ℕ) → left_byte ≡ right_byte → DiffersBelow left right → DiffersBelow (left_byte ∷ left) (right_byte ∷ right)
DiffersBelow-later left_byte right_byte left right same differ = record {
  front = left_byte ∷ differ.front;
  left_byte = differ.left_byte;
  right_byte = differ.right_byte;
  left_rest = differ.left_rest;
  right_rest = differ.right_rest;
  left_is = ap (λ rest. left_byte ∷ rest) differ.left_is;
  right_is = ap (λ byte. byte ∷ right) (sym same) ∙ ap (λ rest. left_byte ∷ rest) differ.right_is;
  below = differ.below;
}

IsProperPrefix-later : (left_byte right_byte : ℕ) (left right : List ℕ) → left_byte ≡ right_byte → IsProperPrefix left right → IsProperPrefix (left_byte ∷ left) (right_byte ∷ right)
IsProperPrefix-later left_byte right_byte left right same prefix = record {
  byte = prefix.byte;
  rest = prefix.rest;
  goes_on = ap (λ byte. byte ∷ right) (sym same) ∙ ap (λ rest. left_byte ∷ rest) prefix.goes_on;
}

-- what the first bytes or the rests show
module _ (P : List ℕ → List ℕ → Type 0) (here : (a b : ℕ) (l r : List ℕ) → a < b → P (a ∷ l) (b ∷ r)) (later : (a b : ℕ) (l r : List ℕ) → a ≡ b → P l r → P (a ∷ l) (b ∷ r)) where
  by_first_bytes : (a b : ℕ) (l r : List ℕ) → (byte_order l r ≡ Less → P l r) → byte_order (a ∷ l) (b ∷ r) ≡ Less → P (a ∷ l) (b ∷ r)
  by_first_bytes a b l r rest less =
      elim (nat_cmp a b) as (λ answer. nat_cmp a b ≡ answer → ordering_then answer (byte_order l r) ≡ Less → P (a ∷ l) (b ∷ r)) [
        | Less ↦ λ is _. here a b l r (lt_from_word a b (ap is_lt is))
        | Equal ↦ λ is others. later a b l r (nat_cmp-IsAntisymmetric a b is) (rest others)
        | Greater ↦ λ is never. cc
      ] refl less

Less-IsBefore : (left right : List ℕ) → byte_order left right ≡ Less → DiffersBelow left right ⊎ IsProperPrefix left right
Less-IsBefore [] [] less = cc
Less-IsBefore [] (byte ∷ right) less = inr (record { byte = byte; rest = right; goes_on = refl })
Less-IsBefore (byte ∷ left) [] less = cc
Less-IsBefore (a ∷ left) (b ∷ right) less =
    by_first_bytes (λ l r. DiffersBelow l r ⊎ IsProperPrefix l r)
    (λ a b l r below. inl (DiffersBelow-here a b l r below))
    (λ a b l r same rest. ⊎_elim (λ differ. inl (DiffersBelow-later a b l r same differ)) (λ prefix. inr (IsProperPrefix-later a b l r same prefix)) rest)
    a b left right (Less-IsBefore left right) less

pub byte_order-Less : (left right : List ℕ) → (byte_order left right ≡ Less) ↔ (DiffersBelow left right ⊎ IsProperPrefix left right)
byte_order-Less left right = (Less-IsBefore left right, λ before. ⊎_elim (DiffersBelow-Less left right) (IsProperPrefix-Less left right) before)

turned_less : (answer turned : Ordering) → answer ≡ ordering_reverse turned → (answer ≡ Greater) ↔ (turned ≡ Less)
turned_less answer Less is = (λ _. refl, λ _. is)
turned_less answer Equal is = (λ greater. cc, λ less. cc)
turned_less answer Greater is = (λ greater. cc, λ less. cc)

pub byte_order-Greater : (left right : List ℕ) → (byte_order left right ≡ Greater) ↔ (byte_order right left ≡ Less)
byte_order-Greater left right = turned_less (byte_order left right) (byte_order right left) (nat_list_cmp_total.antisymm left right)

pub byte_order-Equal : (left right : List ℕ) → (byte_order left right ≡ Equal) ↔ (left ≡ right)
byte_order-Equal left right =
    (slice_cmp-IsAntisymmetric nat_cmp-IsAntisymmetric left right, λ same. ap (byte_order left) (sym same) ∙ tied_itself nat_list_cmp_total left)

-- ---- strings that a zero byte ends

above_zero : (byte : ℕ) → byte ≢ 0 → 0 < byte
above_zero byte other = omega arith

-- the zero byte at the end doesn't change the order
byte_order-ended : (left right : List ℕ) → AllByRecursion (λ byte. byte ≢ 0) left → AllByRecursion (λ byte. byte ≢ 0) right →
    byte_order (ended_by_zero left) (ended_by_zero right) ≡ byte_order left right
byte_order-ended [] [] l r = refl
byte_order-ended [] (byte ∷ right) l r = decides 0 byte [] (right ++ 0 ∷ []) (above_zero byte r.0)
byte_order-ended (byte ∷ left) [] l r =
    ap (λ answer. ordering_then answer (byte_order (left ++ 0 ∷ []) [])) (sym (nat_cmp_is byte 0 Greater (above_zero byte l.0)))
byte_order-ended (a ∷ left) (b ∷ right) l r = ap (ordering_then (nat_cmp a b)) (byte_order-ended left right l.1 r.1)

Less-ended : (left right : List ℕ) → AllByRecursion (λ byte. byte ≢ 0) left → AllByRecursion (λ byte. byte ≢ 0) right → byte_order left right ≡ Less →
    DiffersBelow (ended_by_zero left) (ended_by_zero right)
Less-ended [] [] l r less = cc
Less-ended [] (byte ∷ right) l r less = DiffersBelow-here 0 byte [] (right ++ 0 ∷ []) (above_zero byte r.0)
Less-ended (byte ∷ left) [] l r less = cc
Less-ended (a ∷ left) (b ∷ right) l r less =
    by_first_bytes (λ l r. DiffersBelow (ended_by_zero l) (ended_by_zero r))
    (λ a b l r below. DiffersBelow-here a b (ended_by_zero l) (ended_by_zero r) below)
    (λ a b l r same rest. DiffersBelow-later a b (ended_by_zero l) (ended_by_zero r) same rest)
    a b left right (Less-ended left right l.1 r.1) less

pub byte_order-strings : (left right : List ℕ) → IsStringKey left → IsStringKey right → (byte_order left right ≡ Less) ↔ DiffersBelow (ended_by_zero left) (ended_by_zero right)
byte_order-strings left right left_is right_is =
    let l = recursion_from_All (λ byte. byte ≢ 0) left left_is.without_zero in
    let r = recursion_from_All (λ byte. byte ≢ 0) right right_is.without_zero in
    (Less-ended left right l r, λ differ. sym (byte_order-ended left right l r) ∙ DiffersBelow-Less (ended_by_zero left) (ended_by_zero right) differ)
