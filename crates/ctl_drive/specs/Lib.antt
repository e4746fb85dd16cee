pub mod Controller
pub mod Driven
pub mod Driving
pub mod Replay
