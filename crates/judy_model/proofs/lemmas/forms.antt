-- The forms of trees by the rule.
pub mod FormLemmas
pub mod BucketLemmas
pub mod BucketChains
pub mod WayLemmas
