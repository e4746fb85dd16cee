pub mod Files
pub mod Gathered
pub mod Gives
pub mod Includes
pub mod Joined
pub mod Known
pub mod WholeName
pub mod WrongTypes
