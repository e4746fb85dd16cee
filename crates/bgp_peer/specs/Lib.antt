pub mod Peers
pub mod Sayings
pub mod StandsFor
pub mod Stories
pub mod Turns
