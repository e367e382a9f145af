pub mod RoomLemmas
pub mod DumpLemmas
pub mod LoadLemmas
pub mod EntryLemmas
pub mod LengthLemmas
