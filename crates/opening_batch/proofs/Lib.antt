pub mod Framed
pub mod Headline
pub mod Joined
pub mod Nothing
