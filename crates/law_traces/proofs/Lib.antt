pub mod Joined
pub mod Sent
pub mod Walks
