pub mod Differences
pub mod Differing
pub mod Dues
pub mod Ends
pub mod Names
pub mod Packets
