pub mod Steps
pub mod Units
