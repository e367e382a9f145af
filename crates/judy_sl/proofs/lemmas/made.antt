-- An array made of a list at once.
pub mod SortedRuns
pub mod PairMaps
pub mod PlantedKeys
pub mod Openers
