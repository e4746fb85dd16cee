pub mod Apart
pub mod Blocks
pub mod Counted
pub mod Reading
pub mod Samples
pub mod Spelled
