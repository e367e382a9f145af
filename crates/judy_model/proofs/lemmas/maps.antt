-- Sorted lists, their maps, and what a change makes of a map.
pub mod Tests
pub mod Ascending
pub mod KeysLemmas
pub mod TableLemmas
pub mod ChangesLemmas
pub mod Pairs
pub mod SortedMaps
pub mod Inserts
pub mod ValuesLemmas
pub mod MadeMaps
pub mod MapsOfPairs
pub mod TwoMapsLemmas
