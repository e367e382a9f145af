-- The key at a place.
pub mod PageCounts
pub mod Nths
pub mod NthReads
pub mod PageReads
pub mod NthWays
pub mod NthFirsts
