pub mod Rooms
pub mod Sources
pub mod Dumps
pub mod Loads
