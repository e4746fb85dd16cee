pub mod Closings
pub mod Beneath
pub mod Lost
pub mod Recorded
pub mod Serving
pub mod Ending
