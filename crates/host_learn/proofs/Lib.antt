pub mod KeptParts
pub mod KeptRoom
pub mod KeptValid
pub mod LearnedValid
pub mod Lists
pub mod PartValid
pub mod Sizes
