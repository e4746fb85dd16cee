pub mod RoutedVlans
pub mod Counts
pub mod PortLimits
pub mod AclLimits
pub mod RouteLimits
pub mod Apart
pub mod NamedVlans
pub mod AtMost
