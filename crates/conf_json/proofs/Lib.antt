pub mod Ascending
pub mod Members
pub mod Printed
