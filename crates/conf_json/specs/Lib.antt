pub mod Json
pub mod Text
pub mod Values
pub mod Worked
