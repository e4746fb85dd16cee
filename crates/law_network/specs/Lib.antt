pub mod Coming
pub mod Visited
