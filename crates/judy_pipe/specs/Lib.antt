pub mod Tally
pub mod Pipe
pub mod Trouble
pub mod Content
pub mod MemSource
pub mod MemSink
