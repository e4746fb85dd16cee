pub mod Packets
pub mod Changes
pub mod Told
