pub mod Pages
pub mod Results
pub mod Fills
pub mod RangeWords
pub mod LookUps
pub mod Downward
pub mod Meets
