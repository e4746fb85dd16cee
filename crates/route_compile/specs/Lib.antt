pub mod Gateways
pub mod Routes
pub mod Vips
pub mod Prefixes
pub mod Worked
