pub mod Runs
pub mod Hosts
pub mod Hubs
pub mod Links
