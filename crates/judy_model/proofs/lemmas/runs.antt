-- Scripts, line by line, and what arrays and stores keep.
pub mod LineLemmas
pub mod RunLemmas
pub mod ArraysKept
pub mod StoresKept
pub mod RunLaws
pub mod RemainingLemmas
pub mod WholeLines
pub mod KeptLemmas
pub mod EndLemmas
