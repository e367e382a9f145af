pub mod TailLemmas
pub mod ListLemmas
pub mod LengthLemmas
pub mod SpareTails
pub mod Writing
pub mod LastBytes
pub mod Joined
