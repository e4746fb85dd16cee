pub mod Stack
pub mod Hops
pub mod Trees
pub mod Tables
pub mod Chosen
