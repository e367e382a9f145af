-- Two slices, gone through side by side to their ends.
use Rattle.std.proofs.Common.{◌≡◌, ℕ, ◌+◌, ◌-◌, Bool, true, false, cond, ◌⊎◌, ⊎_elim, [], ◌∷◌, ◌++◌, length, take, drop, Option, Some, None}
use Rattle.std.proofs.Common.{refl, sym, ap, ◌∙◌, subst, arith, append-nil, length-drop}
use Rattle.std.proofs.lemmas.List.{drop_all, take_all}
use Rattle.std.specs.Option.{option_or}
use Rattle.std.specs.FinMap.{find}
use Rattle.judy_model.specs.Keys.{word_order}
use Rattle.judy_node.specs.Trees.{IsMap}
use Rattle.judy_node.proofs.Maps.{map-append}
use Rattle.judy_combine.specs.declared.keep.Keep.{Keep}
use Rattle.judy_combine.specs.Merges.{Pairs, Ascends, taken, pick, IsMerged, IsOrdered}
use Rattle.judy_combine.specs.Kept.{AreKept}
use Rattle.judy_combine.proofs.Finds.{find-join}

-- ---- what one alone has

pub only_right : (left both right : Bool) (o : Option ℕ) → taken left both right None o ≡ cond right o None
only_right left both true None = refl
only_right left both false None = refl
only_right left both right (Some v) = refl

pub only_left : (left both right : Bool) (o : Option ℕ) → taken left both right o None ≡ cond left o None
only_left true both right None = refl
only_left false both right None = refl
only_left left both right (Some v) = refl

pub or_none : (o : Option ℕ) → option_or o None ≡ o
or_none None = refl
or_none (Some v) = refl

abbrev none : Option ℕ
none = None

-- ---- pairs that are wanted

find_if : (b : Bool) (pairs : Pairs) (key : ℕ) → find word_order key (cond b pairs []) ≡ cond b (find word_order key pairs) None
find_if true pairs key = refl
find_if false pairs key = refl

map_if : (words low top : ℕ) (b : Bool) (pairs : Pairs) → IsMap words low top pairs → IsMap words low top (cond b pairs [])
map_if words low top true pairs map = map
map_if words low top false pairs map = tt

none_if : (b : Bool) (pairs : Pairs) → pairs ≡ [] → cond b pairs [] ≡ []
none_if true pairs is = is
none_if false pairs is = refl

ascends_of : (words low top : ℕ) (pairs : Pairs) → IsMap words low top pairs → Ascends low pairs
ascends_of words low top [] map = tt
ascends_of words low top (pair ∷ pairs) map = (map.0, ascends_of words (pair.0 + 1) top pairs map.3)

-- The pairs from a place on, as a slice gives them.
pub rest_is : (pairs : Pairs) (at : ℕ) → take (length pairs - at) (drop at pairs) ≡ drop at pairs
rest_is pairs at = take_all (length pairs - at) (drop at pairs) (let long = length-drop at pairs in omega arith)

-- ---- both at their ends

-- What is written, and what is left of the two, one of which is at its end.
abbrev pub whole : Keep → Pairs → Pairs → ℕ → ℕ → Pairs → Pairs
whole keep one other left right front = (front ++ cond keep.left (drop left one) []) ++ cond keep.right (drop right other) []

module _ (keep : Keep) (words top : ℕ) (one other : Pairs) (left right : ℕ) (front : Pairs) (one_map : IsMap words 0 top one) (other_map : IsMap words 0 top other)
    (ended : (left ≡ length one) ⊎ (right ≡ length other)) (ordered : IsOrdered words top one other left right front) (merged : IsMerged keep one other left right front) where
  pub whole_map : IsMap words 0 top (whole keep one other left right front)
  whole_map = ⊎_elim
      (λ (end : left ≡ length one).
      let none : cond keep.left (drop left one) [] ≡ [] = none_if keep.left (drop left one) (drop_all left one (omega (arith, end))) in
      subst (λ (ps : Pairs). IsMap words 0 top ((front ++ ps) ++ cond keep.right (drop right other) [])) (sym none)
      (subst (λ (ps : Pairs). IsMap words 0 top (ps ++ cond keep.right (drop right other) [])) (sym (append-nil front))
      (map-append words 0 ordered.low top front (cond keep.right (drop right other) []) (omega arith) ordered.inside ordered.front
      (map_if words ordered.low top keep.right (drop right other) ordered.right_up))))
      (λ (end : right ≡ length other).
      let none : cond keep.right (drop right other) [] ≡ [] = none_if keep.right (drop right other) (drop_all right other (omega (arith, end))) in
      subst (λ (ps : Pairs). IsMap words 0 top ((front ++ cond keep.left (drop left one) []) ++ ps)) (sym none)
      (subst (IsMap words 0 top) (sym (append-nil (front ++ cond keep.left (drop left one) [])))
      (map-append words 0 ordered.low top front (cond keep.left (drop left one) []) (omega arith) ordered.inside ordered.front
      (map_if words ordered.low top keep.left (drop left one) ordered.left_up))))
      ended

  found_there : (key : ℕ) → find word_order key (whole keep one other left right front) ≡
      option_or (option_or (find word_order key front) (cond keep.left (find word_order key (drop left one)) None)) (cond keep.right (find word_order key (drop right other)) None)
  found_there key =
      find-join key (front ++ cond keep.left (drop left one) []) (cond keep.right (drop right other) [])
      ∙ (λ t. option_or (find-join key front (cond keep.left (drop left one) []) t) (find_if keep.right (drop right other) key t))
      ∙ ap (λ (o : Option ℕ). option_or (option_or (find word_order key front) o) (cond keep.right (find word_order key (drop right other)) None)) (find_if keep.left (drop left one) key)

  was : (key : ℕ) → option_or (find word_order key front) (pick keep (find word_order key (drop left one)) (find word_order key (drop right other))) ≡
      pick keep (find word_order key one) (find word_order key other)
  was key =
      (λ t. option_or (find word_order key front) (pick keep (find word_order key (sym (append-nil (drop left one)) t)) (find word_order key (sym (append-nil (drop right other)) t))))
      ∙ merged [] [] (subst (Ascends 0) (sym (append-nil one)) (ascends_of words 0 top one one_map)) (subst (Ascends 0) (sym (append-nil other)) (ascends_of words 0 top other other_map)) key
      ∙ (λ t. pick keep (find word_order key (append-nil one t)) (find word_order key (append-nil other t)))

  pub whole_kept : AreKept keep one other (whole keep one other left right front)
  whole_kept key = found_there key ∙ ⊎_elim
      (λ (end : left ≡ length one).
      let gone : find word_order key (drop left one) ≡ None = ap (find word_order key) (drop_all left one (omega (arith, end))) in
      let off : cond keep.left (find word_order key (drop left one)) None ≡ None = ap (λ (o : Option ℕ). cond keep.left o None) gone ∙ none_off keep.left in
      (λ t. option_or (option_or (find word_order key front) (off t)) (cond keep.right (find word_order key (drop right other)) None))
      ∙ (λ t. option_or (or_none (find word_order key front) t) (sym (only_right keep.left keep.both keep.right (find word_order key (drop right other))) t))
      ∙ (λ t. option_or (find word_order key front) (pick keep (sym gone t) (find word_order key (drop right other))))
      ∙ was key)
      (λ (end : right ≡ length other).
      let gone : find word_order key (drop right other) ≡ None = ap (find word_order key) (drop_all right other (omega (arith, end))) in
      let off : cond keep.right (find word_order key (drop right other)) None ≡ None = ap (λ (o : Option ℕ). cond keep.right o None) gone ∙ none_off keep.right in
      (λ t. option_or (option_or (find word_order key front) (cond keep.left (find word_order key (drop left one)) None)) (off t))
      ∙ or_none (option_or (find word_order key front) (cond keep.left (find word_order key (drop left one)) None))
      ∙ ap (option_or (find word_order key front)) (sym (only_left keep.left keep.both keep.right (find word_order key (drop left one))))
      ∙ (λ t. option_or (find word_order key front) (pick keep (find word_order key (drop left one)) (sym gone t)))
      ∙ was key)
      ended
    where
      none_off : (b : Bool) → cond b none none ≡ none
      none_off true = refl
      none_off false = refl
