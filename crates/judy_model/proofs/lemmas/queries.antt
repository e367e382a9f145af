-- What searches and counts answer.
pub mod NearestLemmas
pub mod EmptiesLemmas
pub mod Places
pub mod RankLemmas
pub mod CountsLemmas
pub mod AlikeLemmas
pub mod RankLaws
