-- Where keys stand by their order: numbers, words and byte strings.
pub mod Orders
pub mod WordOrder
pub mod ByteLemmas
pub mod FollowingLemmas
pub mod StringLemmas
pub mod KeyLengthLemmas
