pub mod CommandNames
pub mod WholeLines
pub mod LineExamples
pub mod FaultPlaces
pub mod TwoMapsLaws
pub mod MapExamples
