pub mod Agree
pub mod Named
