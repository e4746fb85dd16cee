pub mod Each
pub mod MatchFields
pub mod Families
pub mod Accepted
