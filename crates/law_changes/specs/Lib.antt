pub mod Clock
pub mod Frames
pub mod Settlings
pub mod Turns
