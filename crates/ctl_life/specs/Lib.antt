pub mod Life
pub mod Silence
pub mod Sayings
