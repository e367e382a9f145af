-- Groups by length: what a change of their list makes of them.
use Rattle.std.proofs.Common.{◌≡◌, ◌≢◌, ℕ, zero, suc, ◌<◌, ◌≤◌, inl, inr, List, [], ◌∷◌, length, get_or, set, nat_le, if◌then◌else◌, true, false, None, Some, Result, Ok, Err, IfOk}
use Rattle.std.proofs.Common.{OnErr, refl, sym, ap, subst, ◌∙◌, arith}
use Rattle.std.proofs.lemmas.List.{map-set, get_or-map, length-map, get_or_past}
use Rattle.std.proofs.lemmas.Option.{none-some}
use Rattle.judy_places.specs.Places.{NoneLost, IsNextPlace}
use Rattle.judy_places.proofs.PlaceLemmas.{free-inside}
use Rattle.judy_model.specs.Keys.{word_order}
use Rattle.std.specs.FinMap.{get, remove}
use Rattle.judy_model.specs.Arrays.{ArrayOf, with_map}
use Rattle.judy_hs.specs.declared.group.GroupPlace.{GroupPlace}
use Rattle.judy_hs.specs.declared.group.GroupPlace.TheVariants.{Free, Short, Long}
use Rattle.judy_hs.specs.declared.group.Inside.{Inside}
use Rattle.judy_hs.specs.declared.group.Inside.TheVariants.{Word, Chained}
use Rattle.judy_hs.specs.LongGroups.{put_at, one_word, one_long}
use Rattle.judy_hs.specs.Groups.{Group, none, short, long, group_with, group_with_key, group_without, one_group, CanTakeKey, IsInside, IsEmptyGroup, IsGroupLess}
use Rattle.judy_hs.specs.GroupPlaces.{group_of, groups_of, link_of, links_of}
use Rattle.judy_hs.specs.GroupLends.{place_with}
use Rattle.judy_hs.specs.Keyed.{Keyed, keyed_with, IsFreeGroup, IsSpot, IsTaken}
use Rattle.judy_hs.specs.declared.trial.Trial.{Trial}
use Rattle.judy_hs.specs.declared.trial.Trial.TheVariants.{Added, Refused, Open}
use Rattle.judy_hs.specs.Trials.{IfAdded, UnlessAdded}
use Rattle.judy_hs.proofs.PlaceSteps.{put-places, end-places, set-places, free-places}
use Rattle.judy_hs.proofs.ListLemmas.{set-twice, set_same, map-put}

-- The groups that their parts are.
abbrev pub keyed_of : ArrayOf word_order → List GroupPlace → Keyed
keyed_of lengths places = record { lengths = lengths; groups = groups_of places }

pub groups_of-set : (places : List GroupPlace) (place : ℕ) (new : GroupPlace) → groups_of (set places place new) ≡ set (groups_of places) place (group_of new)
groups_of-set places place new = map-set group_of places place new

-- The group at a place with another one in it.
pub keyed-set : (lengths : ArrayOf word_order) (places : List GroupPlace) (place : ℕ) (new : GroupPlace) (group : Group) → group_of new ≡ group →
    keyed_of lengths (set places place new) ≡ record { lengths = lengths; groups = set (groups_of places) place group }
keyed-set lengths places place new group is = ap (λ (all : List Group). record { lengths = lengths; groups = all }) (groups_of-set places place new ∙ ap (set (groups_of places) place) is)

-- A group taken from its place.
pub keyed-free : (lengths : ArrayOf word_order) (places : List GroupPlace) (place next : ℕ) (new : GroupPlace) →
    keyed_of lengths (set (set places place new) place (Free next)) ≡ record { lengths = lengths; groups = set (groups_of places) place none }
keyed-free lengths places place next new = ap (keyed_of lengths) (set-twice places place new (Free next)) ∙ keyed-set lengths places place (Free next) none refl

-- A group put at a free place.
pub keyed-put : (lengths : ArrayOf word_order) (places : List GroupPlace) (place : ℕ) (new : GroupPlace) (group : Group) → group_of new ≡ group →
    keyed_of lengths (put_at places place new) ≡ record { lengths = lengths; groups = put_at (groups_of places) place group }
keyed-put lengths places place new group is = ap (λ (all : List Group). record { lengths = lengths; groups = all }) (map-put group_of places place new ∙ ap (put_at (groups_of places) place) is)

-- A place within the groups is one of the list.
pub within-places : (lengths : ArrayOf word_order) (places : List GroupPlace) (keyed : Keyed) (place : ℕ) → keyed_of lengths places ≡ keyed → place < length keyed.groups → place < length places
within-places lengths places keyed place is within =
    let same : length places ≡ length keyed.groups = sym (length-map places group_of) ∙ ap (λ (keyed : Keyed). length keyed.groups) is in
    omega arith

-- A place with a group that takes keys is one of the list.
pub used-within : (places : List GroupPlace) (place part : ℕ) → CanTakeKey (get_or (groups_of places) place none) part → place < length places
used-within [] place part can = absurd can
used-within (first ∷ rest) zero part can = omega arith
used-within (first ∷ rest) (suc place) part can = omega (arith, used-within rest place part can)

group_of-with : (held : GroupPlace) (inside : Inside) (key : List ℕ) (value : ℕ) → group_of (place_with held inside key value) ≡ group_with (group_of held) inside key value
group_of-with (Free next) inside key value = refl
group_of-with (Short words) (Word word) key value = refl
group_of-with (Short words) (Chained place) key value = refl
group_of-with (Long group) (Word word) key value = refl
group_of-with (Long group) (Chained place) key value = refl

module _ (lengths : ArrayOf word_order) (places : List GroupPlace) (place : ℕ) (held : GroupPlace) (within : place < length places) (is : held ≡ get_or places place held) where
  pub held-is : group_of held ≡ get_or (groups_of places) place none
  held-is = ap group_of is ∙ sym (get_or-map group_of places place held none within)

  pub keyed-written : (inside : Inside) (key : List ℕ) (value : ℕ) → keyed_of lengths (set places place (place_with held inside key value)) ≡
      keyed_with (keyed_of lengths places) place inside key value
  keyed-written inside key value =
      keyed-set lengths places place (place_with held inside key value) _ (group_of-with held inside key value ∙ ap (λ (group : Group). group_with group inside key value) held-is)

  pub keyed-back : keyed_of lengths (set places place held) ≡ keyed_of lengths places
  keyed-back = ap (keyed_of lengths) (set_same places place held is)

  -- A key was taken out of the group at a place.
  module _ (part : ℕ) (key : List ℕ) (leads : get lengths.map (length key) ≡ Some place) (new : GroupPlace) (less : IsGroupLess (group_of held) part key (group_of new)) where
    less-here : IsGroupLess (get_or (groups_of places) place none) part key (group_of new)
    less-here = subst (λ (group : Group). IsGroupLess group part key (group_of new)) held-is less

    stood-here : IsSpot (keyed_of lengths places) part key place less-here.inside
    stood-here = record {
      leads = leads;
      within = let same = length-map places group_of in omega (arith, within, same);
      is_inside = less-here.stood;
    }

    -- Others are left,
    pub taken-kept : (IsEmptyGroup (group_of new) → ⊥) → IsTaken (keyed_of lengths places) part key (keyed_of lengths (set places place new))
    taken-kept some = record {
      place = place;
      inside = less-here.inside;
      stood = stood-here;
      kept = λ used. keyed-set lengths places place new _ less-here.less;
      emptied = λ empty. absurd (some (subst IsEmptyGroup (sym less-here.less) empty));
    }

    -- or none is, and the group goes.
    pub taken-emptied : IsEmptyGroup (group_of new) → (next : ℕ) (fewer : ArrayOf word_order) → fewer ≡ with_map lengths (remove lengths.map (length key)) →
        IsTaken (keyed_of lengths places) part key (keyed_of fewer (set (set places place new) place (Free next)))
    taken-emptied empty next fewer is_fewer = record {
      place = place;
      inside = less-here.inside;
      stood = stood-here;
      kept = λ used. absurd (used (subst IsEmptyGroup less-here.less empty));
      emptied = λ gone. keyed-free fewer places place next new ∙ ap (λ (words : ArrayOf word_order). record { lengths = words; groups = set (groups_of places) place none }) is_fewer;
    }

-- ---- what the places keep

pub link-group : (place : GroupPlace) → group_of place ≢ none → link_of place ≡ None
link-group (Free next) some = absurd (some refl)
link-group (Short words) some = refl
link-group (Long group) some = refl

some-group : (place : GroupPlace) → link_of place ≡ None → group_of place ≢ none
some-group (Free next) taken e = absurd (none-some next (sym taken))
some-group (Short words) taken e = cc
some-group (Long group) taken e = cc

link-with : (place : GroupPlace) (inside : Inside) (key : List ℕ) (value : ℕ) → link_of (place_with place inside key value) ≡ link_of place
link-with (Free next) inside key value = refl
link-with (Short words) (Word word) key value = refl
link-with (Short words) (Chained place) key value = refl
link-with (Long group) (Word word) key value = refl
link-with (Long group) (Chained place) key value = refl

pub can-some : (group : Group) (part : ℕ) → CanTakeKey group part → group ≢ none
can-some group part can e = subst (λ (g : Group). CanTakeKey g part) e can

pub inside-group : (group : Group) (part : ℕ) (key : List ℕ) (inside : Inside) → IsInside group part key inside → group ≢ none
inside-group group part key inside is e = subst (λ (g : Group). IsInside g part key inside) e is

pub without-some : (group : Group) (part : ℕ) (inside : Inside) (key : List ℕ) → group ≢ none → group_without group part inside key ≢ none
without-some none part inside key some e = some refl
without-some (short words) part inside key some e = cc
without-some (long group) part (Word word) key some e = cc
without-some (long group) part (Chained place) key some e = cc

key-some : (group : Group) (part : ℕ) (key : List ℕ) (inside : Inside) → group ≢ none → group_with_key group part key inside ≢ none
key-some none part key inside some e = some refl
key-some (short words) part key inside some e = cc
key-some (long group) part key (Word word) some e = cc
key-some (long group) part key (Chained place) some e = cc

pub one-some : (part : ℕ) (key : List ℕ) → one_group part key ≢ none
one-some part key = elim (nat_le (length key) 8) as (λ b. (if b then short (one_word part 0) else long (one_long part key)) ≢ none) [
  | true ↦ λ e. cc
  | false ↦ λ e. cc
]

-- A group stays one, whether a key was put in or refused.
pub added-some : {E : Type 0} (result : Result Inside E) (part : ℕ) (key : List ℕ) (before after : Group) → IfOk result (λ inside. after ≡ group_with_key before part key inside) →
    OnErr result (after ≡ before) → before ≢ none → after ≢ none
added-some (Ok inside) part key before after added same some e = key-some before part key inside some (sym added ∙ e)
added-some (Err error) part key before after added same some e = some (sym same ∙ e)

module _ (places : List GroupPlace) (free : ℕ) (lost : NoneLost (links_of places) free) where
  -- The next place has no group; it is the end only where each place has one.
  pub groups-free : (place next : ℕ) → IsNextPlace (links_of places) free place next → IsFreeGroup (groups_of places) place
  groups-free place next is = record {
    within = free-within place next is;
    no_group = free-empty place next is;
    last = λ end at inside.
        let within : at < length places = omega (arith, inside, two) in
        let all = end-places link_of places free lost place next is (end ∙ two) at in
        subst (λ (group : Group). group ≢ none) (sym (get_or-map group_of places at (Free 0) none within))
        (some-group (get_or places at (Free 0)) (sym (get_or-map link_of places at (Free 0) None within) ∙ all));
  }
    where
      one : length (links_of places) ≡ length places
      one = length-map places link_of

      two : length (groups_of places) ≡ length places
      two = length-map places group_of

      free-within : (place next : ℕ) → IsNextPlace (links_of places) free place next → place ≤ length (groups_of places)
      free-within place next (inl is) =
          let inside = free-inside (links_of places) free next is.0 in
          let here = is.1 in
          omega (arith, inside, one, two, here)
      free-within place next (inr is) = (let here = is.1 in omega (arith, one, two, here))

      empty-at : (items : List GroupPlace) (at next : ℕ) → get_or (links_of items) at None ≡ Some next → get_or (groups_of items) at none ≡ none
      empty-at [] at next is = refl
      empty-at (Free link ∷ rest) zero next is = refl
      empty-at (Short words ∷ rest) zero next is = absurd (none-some next is)
      empty-at (Long group ∷ rest) zero next is = absurd (none-some next is)
      empty-at (first ∷ rest) (suc at) next is = empty-at rest at next is

      free-empty : (place next : ℕ) → IsNextPlace (links_of places) free place next → get_or (groups_of places) place none ≡ none
      free-empty place next (inl is) = ap (λ at. get_or (groups_of places) at none) is.1 ∙ empty-at places free next is.0
      free-empty place next (inr is) = (let here = is.1 in get_or_past (groups_of places) place none (omega (arith, one, two, here)))

  -- A group is put at the next place.
  pub groups-put : (place next : ℕ) (new : GroupPlace) → IsNextPlace (links_of places) free place next → group_of new ≢ none → NoneLost (links_of (put_at places place new)) next
  groups-put place next new is some = put-places link_of places free lost place next new is (link-group new some)

  module _ (at : ℕ) (held : GroupPlace) (is : held ≡ get_or places at held) where
    pub groups-back : NoneLost (links_of (set places at held)) free
    groups-back = subst (λ (items : List GroupPlace). NoneLost (links_of items) free) (sym (set_same places at held is)) lost

    -- A value is written in the group,
    pub groups-with : (inside : Inside) (key : List ℕ) (value : ℕ) → NoneLost (links_of (set places at (place_with held inside key value))) free
    groups-with inside key value = set-places link_of places free lost at held is (place_with held inside key value) (link-with held inside key value)

    module _ (some : group_of held ≢ none) (new : GroupPlace) where
      -- the group is another,
      pub groups-set : group_of new ≢ none → NoneLost (links_of (set places at new)) free
      groups-set other = set-places link_of places free lost at held is new (link-group new other ∙ sym (link-group held some))

      -- or goes.
      pub groups-gone : at < length places → NoneLost (links_of (set (set places at new) at (Free free))) at
      groups-gone inside = free-places link_of places free lost at held is inside (link-group held some) new (Free free) refl

    -- A key is tried in it.
    pub groups-tried : (trial : Trial Inside) (part : ℕ) (key : List ℕ) (new : GroupPlace)
        → IfAdded trial (λ _. group_of held ≢ none) → IfAdded trial (λ inside. group_of new ≡ group_with_key (group_of held) part key inside) → UnlessAdded trial (new ≡ held)
        → NoneLost (links_of (set places at new)) free
    groups-tried (Added inside) part key new some added same = groups-set some new (λ gone. key-some (group_of held) part key inside some (sym added ∙ gone))
    groups-tried Refused part key new some added same = subst (λ (one : GroupPlace). NoneLost (links_of (set places at one)) free) (sym same) groups-back
    groups-tried Open part key new some added same = subst (λ (one : GroupPlace). NoneLost (links_of (set places at one)) free) (sym same) groups-back

-- Where a key was tried in a group that can take it, the places are what they were, but for that group.
pub groups-added : {E : Type 0} (lengths : ArrayOf word_order) (places : List GroupPlace) (free : ℕ) (lost : NoneLost (links_of places) free) (at : ℕ) (found : GroupPlace) →
    found ≡ get_or places at found → (part : ℕ) (key : List ℕ) → CanTakeKey (get_or (groups_of places) at none) part
    → (result : Result Inside E) (new : GroupPlace) → IfOk result (λ inside. group_of new ≡ group_with_key (group_of found) part key inside) →
    OnErr result (group_of new ≡ group_of found) → NoneLost (links_of (set places at new)) free
groups-added lengths places free lost at found read part key can result new added unchanged =
    let held = held-is lengths places at found (used-within places at part can) read in
    let some : group_of found ≢ none = (λ gone. can-some _ part can (sym held ∙ gone)) in
    groups-set places free lost at found read some new (added-some result part key _ _ added unchanged some)
