pub mod Joined
pub mod MetRoutes
pub mod MetVips
pub mod Mirrors
pub mod PortPlaces
pub mod Sizes
