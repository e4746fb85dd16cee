pub mod Entry
pub mod Ready
pub mod Shown
pub mod Followed
