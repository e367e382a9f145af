pub mod Contents
pub mod Deeds
pub mod Layout
pub mod Lends
pub mod Ownership
pub mod SlotLends
