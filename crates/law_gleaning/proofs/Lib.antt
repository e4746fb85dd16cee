pub mod Gleaned
pub mod Led
