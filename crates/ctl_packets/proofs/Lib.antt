pub mod Gleaned
pub mod Keeping
pub mod PacketHosts
pub mod Sound
