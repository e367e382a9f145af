pub mod Numerals
pub mod DigitLemmas
pub mod DigitLanes
pub mod NamedArrays
pub mod MakeLemmas
pub mod KeyReadLemmas
pub mod ScanLemmas
