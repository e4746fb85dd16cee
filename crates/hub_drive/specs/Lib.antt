pub mod Machine
pub mod Driving
pub mod Driven
pub mod Replay
pub mod Still
