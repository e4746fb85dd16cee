pub mod Added
pub mod InOrder
pub mod InRange
pub mod Indexed
pub mod Resolved
