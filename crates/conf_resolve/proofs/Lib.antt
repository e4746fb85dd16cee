pub mod Adding
pub mod Found
pub mod Naming
pub mod Once
pub mod Sorting
pub mod Unwritten
