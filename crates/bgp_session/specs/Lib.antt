pub mod Sessions
pub mod Stories
