pub mod Found
pub mod Names
pub mod Ports
pub mod Routing
pub mod Limits
