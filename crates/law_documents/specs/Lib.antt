pub mod Gives
pub mod SameButOrder
pub mod Leads
pub mod Forms
pub mod Rules
pub mod Shape
