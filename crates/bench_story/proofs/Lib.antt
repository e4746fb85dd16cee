pub mod Lists
pub mod Valid
pub mod Ports
pub mod Counting
pub mod Types
pub mod Courses
pub mod Runs
pub mod Measures
