-- A key that comes in, or gets a value.
pub mod Written
pub mod Replaced
pub mod Filled
pub mod Tailed
pub mod Tried
pub mod Inserted
pub mod Grafts
pub mod Hangs
pub mod Grafted
pub mod GraftedEntry
pub mod Splits
