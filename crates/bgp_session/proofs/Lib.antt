pub mod Closing
pub mod Coming
pub mod Kept
pub mod Saying
pub mod Silence
pub mod Timers
