pub mod Messages
pub mod Spoken
