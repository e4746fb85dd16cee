pub mod Replaying
pub mod Speaking
pub mod Told
