pub mod Causes
pub mod FileWatch
pub mod Look
pub mod Texts
pub mod Watch
pub mod Watched
pub mod WatchedStory
