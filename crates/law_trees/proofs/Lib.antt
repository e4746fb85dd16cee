pub mod Totals
pub mod Nearer
pub mod Lines
pub mod Sides
pub mod Roots
pub mod Floods
pub mod Reached
