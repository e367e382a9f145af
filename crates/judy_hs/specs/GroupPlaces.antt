-- Places for groups.
use Rattle.std.specs.Prelude.{ℕ, List, map, Option, None, Some}
use Rattle.judy_places.specs.Places.{Links}
use Rattle.judy_hs.specs.Groups.{Group, none, short, long}
use Rattle.judy_hs.specs.declared.group.GroupPlace.{GroupPlace}
use Rattle.judy_hs.specs.declared.group.GroupPlace.TheVariants.{Free, Short, Long}

-- The group at a place.
abbrev pub group_of : GroupPlace → Group
group_of (Free next) = none
group_of (Short words) = short words
group_of (Long group) = long group

-- The groups at all places.
abbrev pub groups_of : List GroupPlace → List Group
groups_of places = map group_of places

-- What a place is linked to where it is free.
abbrev pub link_of : GroupPlace → Option ℕ
link_of (Free next) = Some next
link_of (Short words) = None
link_of (Long group) = None

-- The links of all places.
abbrev pub links_of : List GroupPlace → Links
links_of places = map link_of places
