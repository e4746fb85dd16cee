pub mod Networks
pub mod Sets
pub mod Stories
pub mod Updates
pub mod Worked
