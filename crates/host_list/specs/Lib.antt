pub mod Addresses
pub mod Counts
pub mod Hosts
pub mod Leaving
pub mod Order
pub mod Parts
pub mod Passed
pub mod Shelves
