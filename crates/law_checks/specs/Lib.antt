pub mod Fields
pub mod Says
pub mod Values
pub mod Resolves
