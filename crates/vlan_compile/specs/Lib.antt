pub mod Vlans
pub mod Admissions
pub mod Sources
pub mod Misses
pub mod Destinations
pub mod Floods
pub mod Targets
pub mod Counts
