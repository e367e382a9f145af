pub mod KeyTexts
pub mod CutLemmas
pub mod TokenLemmas
pub mod StepsOfLines
pub mod FeedLemmas
pub mod ReadLemmas
pub mod Listings
