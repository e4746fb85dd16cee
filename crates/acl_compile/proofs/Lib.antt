pub mod Once
pub mod Numbered
pub mod Matches
pub mod Accepted
