pub mod Same
pub mod Texts
pub mod Speaking
