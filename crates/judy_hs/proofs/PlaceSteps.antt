-- Lists with free places: what a place taken, changed or freed makes of them.
use Rattle.std.proofs.Common.{◌≡◌, ℕ, zero, suc, ◌<◌, inl, inr, true, false, List, [], ◌∷◌, map, length, get_or, set, nat_lt, Option, None, Some, refl, sym, ap, subst, ◌∙◌, arith}
use Rattle.std.proofs.lemmas.Bool.{lt-ltb, le-ltb}
use Rattle.std.proofs.lemmas.List.{map-set, length-map, get_or-map}
use Rattle.judy_places.specs.Places.{Links, AllTaken, NoneLost, IsNextPlace, IsPlaceTaken}
use Rattle.judy_places.proofs.PlaceLemmas.{taken-reused, place-freed, free-inside, none-free}
use Rattle.judy_hs.specs.LongGroups.{put_at}
use Rattle.judy_hs.proofs.ListLemmas.{set-twice, map-put}

next-taken : (links : Links) (first place next : ℕ) → IsNextPlace links first place next → IsPlaceTaken links first (put_at links place None) next
next-taken links first place next (inl is) =
    let e : nat_lt first (length links) ≡ true = lt-ltb first (length links) (free-inside links first next is.0) in
    inl (is.0, ap (λ at. put_at links at None) is.1 ∙ rw e refl)
next-taken links first place next (inr is) =
    let e : nat_lt (length links) (length links) ≡ false = le-ltb (length links) (length links) (omega arith) in
    inr (is.0, ap (λ at. put_at links at None) is.1 ∙ rw e refl, is.2)

module _ {X : Type 0} (link : X → Option ℕ) (items : List X) (first : ℕ) (lost : NoneLost (map link items) first) where
  -- What is taken is put at the next place.
  pub put-places : (place next : ℕ) (x : X) → IsNextPlace (map link items) first place next → link x ≡ None → NoneLost (map link (put_at items place x)) next
  put-places place next x is taken =
      subst (λ (links : Links). NoneLost links next) (sym (map-put link items place x ∙ ap (put_at (map link items) place) taken))
      ((taken-reused (map link items) first (put_at (map link items) place None) next (next-taken (map link items) first place next is)).kept lost)

  -- The end is next only where each place is taken.
  pub end-places : (place next : ℕ) → IsNextPlace (map link items) first place next → place ≡ length items → AllTaken (map link items)
  end-places place next (inl is) end =
      let inside = free-inside (map link items) first next is.0 in
      let long : length (map link items) ≡ length items = length-map items link in
      let here = is.1 in
      absurd (omega (arith, inside, long, here, end))
  end-places place next (inr is) end = none-free (map link items) first lost is.0

-- What stands at a place is linked as what stood there.
pub links-set : {X : Type 0} (link : X → Option ℕ) (items : List X) (at : ℕ) (held new : X) → held ≡ get_or items at held → link new ≡ link held → map link (set items at new) ≡ map link items
links-set link [] at held new is same = refl
links-set link (one ∷ rest) zero held new is same = ap (λ first. first ∷ map link rest) (same ∙ ap link is)
links-set link (one ∷ rest) (suc at) held new is same = ap (λ links. link one ∷ links) (links-set link rest at held new is same)

module _ {X : Type 0} (link : X → Option ℕ) (items : List X) (first : ℕ) (lost : NoneLost (map link items) first) (at : ℕ) (held : X) (is : held ≡ get_or items at held) where
  pub set-places : (new : X) → link new ≡ link held → NoneLost (map link (set items at new)) first
  set-places new same = subst (λ (links : Links). NoneLost links first) (sym (links-set link items at held new is same)) lost

  -- A taken place becomes the first free one.
  pub free-places : at < length items → link held ≡ None → (new free : X) → link free ≡ Some first → NoneLost (map link (set (set items at new) at free)) at
  free-places inside taken new free linked =
      let long : length (map link items) ≡ length items = length-map items link in
      subst (λ (links : Links). NoneLost links at) (sym (ap (λ (xs : List X). map link xs) (set-twice items at new free) ∙ map-set link items at free ∙ ap (set (map link items) at) linked))
      ((place-freed (map link items) first at (omega (arith, long, inside)) (get_or-map link items at held None inside ∙ ap link (sym is) ∙ taken)).kept lost)
