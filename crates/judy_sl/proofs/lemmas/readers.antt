-- A reader of a key, piece by piece.
pub mod TextSteps
pub mod LevelSteps
pub mod Followed
pub mod SharedBytes
pub mod FirstReads
