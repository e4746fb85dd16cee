pub mod Worked
pub mod Numbers
pub mod Longest
