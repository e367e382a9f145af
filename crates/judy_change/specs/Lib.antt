pub mod Removals
pub mod Around
pub mod LeafTrees
pub mod Inserted
pub mod Exchanged
pub mod Put
pub mod Splits
pub mod Appended
