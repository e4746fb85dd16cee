pub mod Grounds
pub mod Right
pub mod Sayable
pub mod Settlings
