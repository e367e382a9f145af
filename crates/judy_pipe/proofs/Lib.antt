pub mod Moves
pub mod Counts
pub mod Ahead
