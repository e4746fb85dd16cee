-- What the clauses cite.
pub mod Poller
pub mod Port
pub mod Sources
pub mod Ticks
