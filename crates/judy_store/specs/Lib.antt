pub mod Ends
pub mod Formats
pub mod Stops
