pub mod Merges
pub mod KeptBits
pub mod Kept
