pub mod Mapped
pub mod FloodLemmas
pub mod CountLemmas
pub mod Valid
pub mod Accepted
pub mod Keys
pub mod Members
