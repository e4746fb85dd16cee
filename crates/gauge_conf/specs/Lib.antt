pub mod Conflicts
pub mod Faults
pub mod Keys
pub mod Raw
pub mod Resolved
