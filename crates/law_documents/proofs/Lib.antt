mod Back
mod Clash
mod Fits
mod Interfaces
mod Kept
mod OrderLaw
mod Layers
mod Looked
mod Networks
mod Ordered
mod Raw
mod Reordered
mod Rules
mod Sorting
pub mod Leads
pub mod Told
pub mod Parts
pub mod Vlans
pub mod Own
pub mod Names
pub mod Fields
pub mod Ports
pub mod Routing
pub mod Limits
pub mod Shape
pub mod PathLaw
