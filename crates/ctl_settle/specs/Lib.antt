pub mod Names
pub mod Settling
pub mod Rest
pub mod Plans
pub mod Touched
pub mod Asked
pub mod Counted
