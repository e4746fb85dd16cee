pub mod Places
pub mod Targets
pub mod Rows
pub mod Slices
pub mod Worked
