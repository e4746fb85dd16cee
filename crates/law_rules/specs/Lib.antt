pub mod Counted
pub mod Limits
pub mod MatchKeys
pub mod Rules
pub mod AtMost
