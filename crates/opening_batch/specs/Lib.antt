pub mod Messages
pub mod Opened
pub mod Opening
