pub mod Owner
pub mod Reach
pub mod Reached
