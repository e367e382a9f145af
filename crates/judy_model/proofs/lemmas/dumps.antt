-- Dumps: what is read is spelled so, and back.
pub mod FieldLemmas
pub mod EntryLemmas
pub mod ContentsLemmas
pub mod StringKeys
pub mod SharedKeys
pub mod KindLemmas
pub mod DumpLemmas
pub mod PlaceLemmas
