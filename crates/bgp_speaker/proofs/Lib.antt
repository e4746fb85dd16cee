pub mod Kept
pub mod News
