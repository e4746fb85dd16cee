pub mod Closings
pub mod Connections
pub mod Frames
pub mod Replies
pub mod Stages
pub mod Staying
pub mod Told
