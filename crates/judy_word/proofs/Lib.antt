mod Sets
mod SeenWords
mod HeldFacts
mod MapFacts
mod RemovalFacts
mod RangeFacts
mod ExchangeFacts
mod InsertionFacts
mod ArrayFacts
mod EntryFacts
mod SortedFacts
pub mod IterFacts
pub mod TrialLemmas
pub mod Groups
pub mod FrontFacts
pub mod FillingFacts
