pub mod Difference
pub mod Needed
