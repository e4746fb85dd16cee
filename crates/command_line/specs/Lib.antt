pub mod Parts
pub mod Parting
pub mod Written
pub mod Values
pub mod Meaning
pub mod Recorded
pub mod Asked
pub mod Frames
