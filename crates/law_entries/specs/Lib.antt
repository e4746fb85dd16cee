pub mod Short
pub mod Whole
pub mod Doable
