pub mod Heard
pub mod Settled
pub mod Turned
