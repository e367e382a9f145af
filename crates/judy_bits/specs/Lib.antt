pub mod ByteSets
pub mod BitWords
pub mod Paddings
pub mod Forms
pub mod FrontCounts
pub mod KeptMembers
