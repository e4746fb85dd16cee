pub mod Checksum
pub mod Frame
pub mod Layouts
pub mod Numbers
pub mod Packets
pub mod Replies
