pub mod Closings
pub mod Reloads
