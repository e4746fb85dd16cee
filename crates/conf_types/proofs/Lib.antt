pub mod Families
pub mod Found
pub mod Marks
pub mod LinksUp
pub mod Listed
pub mod Reached
pub mod Taken
pub mod Alone
