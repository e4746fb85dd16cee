pub mod Order
pub mod Runs
pub mod Members
pub mod Decided
pub mod Tests
pub mod Outputs
