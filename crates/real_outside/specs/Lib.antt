-- What the clauses cite.
pub mod NewFile
pub mod Opened
pub mod Reads
pub mod Words
