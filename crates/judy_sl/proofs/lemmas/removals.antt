-- A key that goes.
pub mod Orphans
pub mod Cuts
pub mod Shrinks
pub mod Removed
pub mod Beside
