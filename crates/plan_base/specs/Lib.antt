pub mod Families
pub mod Fields
pub mod Actions
pub mod Entries
pub mod Sending
pub mod MatchFields
pub mod Accepted
