pub mod Lengths
pub mod GrownEntries
pub mod RouteTexts
pub mod Room
