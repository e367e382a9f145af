pub mod Parts
pub mod Splits
pub mod Finds
pub mod RankFacts
pub mod Links
pub mod EndFacts
pub mod Downs
pub mod Runs
pub mod Blocks
pub mod BranchRooms
pub mod RoomSteps
pub mod SideRooms
pub mod AbsentSides
pub mod TurnFacts
mod TurnSides
pub mod NearFacts
pub mod WalkFacts
mod ScanFacts
mod GivingFacts
mod LaterFacts
pub mod AroundFacts
