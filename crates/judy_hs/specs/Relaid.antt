-- Groups whose keys stand in other places.
use Rattle.std.specs.Prelude.{◌≡◌, ℕ, List, get_or, Option, Some, option_map}
use Rattle.std.specs.FinMap.{get}
use Rattle.judy_hs.specs.Chains.{Pairs}
use Rattle.judy_hs.specs.LongGroups.{Long, chain_at}
use Rattle.judy_hs.specs.Groups.{Group, none, short, long}
use Rattle.judy_hs.specs.Keyed.{Keyed}

-- Each hash leads to a place of its own.
abbrev pub HasOwnPlaces : Long → Type 0
HasOwnPlaces group = (one other place : ℕ) → get group.hashes.map one ≡ Some place → get group.hashes.map other ≡ Some place → one ≡ other

-- The keys with a hash: those at the place to which it leads.
abbrev pub keys_of : Long → ℕ → Option Pairs
keys_of group hash = option_map (chain_at group) (get group.hashes.map hash)

-- The keys of a group stand under the same hashes, at whatever places.
pub record IsRelaid (before after : Long) : Type 0 where
  pub key_length : after.key_length ≡ before.key_length
  pub apart : HasOwnPlaces before → HasOwnPlaces after
  pub keys : (hash : ℕ) → keys_of after hash ≡ keys_of before hash

-- A group is what it was, but for the places of long keys.
abbrev pub IsRelaidGroup : Group → Group → Type 0
IsRelaidGroup none after = after ≡ none
IsRelaidGroup (short words) after = after ≡ short words
IsRelaidGroup (long group) after = (now : Long) × (after ≡ long now) × IsRelaid group now

-- The same of groups, place by place.
abbrev pub AreRelaid : List Group → List Group → Type 0
AreRelaid before after = (place : ℕ) → IsRelaidGroup (get_or before place none) (get_or after place none)

-- Each length leads to the group to which it led, with the same keys.
pub record IsRelaidKeyed (before after : Keyed) : Type 0 where
  pub lengths : after.lengths ≡ before.lengths
  pub groups : AreRelaid before.groups after.groups
