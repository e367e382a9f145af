pub mod Pairs
pub mod Groups
pub mod Chunks
pub mod Levels
pub mod Laws
pub mod Listed
