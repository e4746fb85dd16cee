pub mod Ascending
pub mod Named
pub mod Places
pub mod Told
pub mod Ways
