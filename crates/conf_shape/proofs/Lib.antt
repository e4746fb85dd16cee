pub mod FaultLaws
mod Made
pub mod Parsed
mod SeenNames
pub mod Written
