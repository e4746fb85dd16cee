pub mod Split
pub mod Order
pub mod Leads
pub mod Needs
pub mod Least
pub mod Walked
