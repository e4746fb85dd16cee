pub mod Messages
pub mod Heard
