pub mod Setup
pub mod Switch
pub mod Counted
pub mod Story
pub mod Measured
