pub mod Once
pub mod Walks
