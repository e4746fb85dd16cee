pub mod Calls
pub mod HubInMemory
pub mod LinkInMemory
pub mod Moved
pub mod Nexts
pub mod PollerInMemory
pub mod Stories
