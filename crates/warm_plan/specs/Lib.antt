pub mod Units
pub mod Places
pub mod Effects
pub mod Named
pub mod Once
pub mod Parts
pub mod Kept
pub mod Touched
