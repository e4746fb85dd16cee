pub mod FallsSilent
pub mod Heard
pub mod Looks
pub mod Openings
