pub mod Words
pub mod Marks
pub mod Grammar
pub mod Numerals
pub mod Once
pub mod Digits
pub mod Asked
