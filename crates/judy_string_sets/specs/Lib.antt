pub mod Walks
pub mod Ways
pub mod Results
pub mod Ends
pub mod Reaches
