-- Keys as pieces, and the way that they lead.
pub mod PieceLemmas
pub mod Ways
pub mod PieceBytes
pub mod OnWay
pub mod Branching
pub mod Exact
pub mod Looked
pub mod ZeroLemmas
pub mod Strings
