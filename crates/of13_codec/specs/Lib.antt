pub mod Decoding
pub mod Faults
pub mod Memory
pub mod Messages
pub mod Spelling
pub mod WellFormed
