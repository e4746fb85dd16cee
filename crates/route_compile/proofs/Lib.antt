pub mod Numbers
pub mod Items
pub mod RoutingSet
pub mod Accepted
