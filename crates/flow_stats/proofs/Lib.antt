pub mod Answered
pub mod Entries
pub mod Joining
pub mod Reading
