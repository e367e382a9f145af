-- What stands where: worlds, arenas, and the map of their keys.
pub mod Numbered
pub mod Frames
pub mod Changes
pub mod Seats
pub mod Entries
pub mod Linked
pub mod PlaceKinds
pub mod Led
pub mod Lone
pub mod Maps
pub mod Keeping
pub mod LevelLemmas
pub mod Words
pub mod Behind
