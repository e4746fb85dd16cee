pub mod Tables
pub mod Grammar
pub mod Causes
pub mod Means
