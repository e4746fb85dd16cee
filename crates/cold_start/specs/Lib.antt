pub mod Counts
pub mod Cold
pub mod Members
