pub mod Cuts
pub mod LineBuffers
pub mod Feeds
pub mod Faults
pub mod RunEnds
pub mod Lines
