pub mod Hub
pub mod Links
pub mod Runs
