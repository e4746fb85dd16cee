pub mod Bytes
pub mod Described
pub mod Fronts
pub mod Replies
pub mod Served
pub mod Spelled
