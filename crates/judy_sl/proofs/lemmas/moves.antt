-- Tails that go to other places.
pub mod Moved
pub mod Settled
pub mod Tries
