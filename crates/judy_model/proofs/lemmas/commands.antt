-- A line of a script: its tokens, and what its command does.
pub mod StepLemmas
pub mod WordLemmas
pub mod KeyTokenLemmas
pub mod Outcomes
pub mod ReadingLemmas
pub mod SizeLemmas
pub mod CommandLemmas
pub mod ValueCommands
pub mod SearchCommands
pub mod WholeCommands
pub mod MakeCommands
pub mod RefusedCommands
pub mod OrderedRefusals
