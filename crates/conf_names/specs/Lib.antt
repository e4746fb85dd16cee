pub mod Ends
pub mod NumberedPorts
pub mod Tables
