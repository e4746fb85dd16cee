pub mod Closed
pub mod Reloaded
pub mod Watched
