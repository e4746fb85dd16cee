pub mod Lines
pub mod Parts
pub mod Numbers
pub mod Scalars
pub mod Keys
pub mod Opened
pub mod Blocks
pub mod TextFault
