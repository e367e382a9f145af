-- The nearest keys, and cursors.
pub mod ScanLevels
pub mod ScanWays
pub mod ScanEnds
pub mod ScanEntries
pub mod ScanMaps
pub mod LevelEntries
pub mod RunWays
pub mod Fronts
