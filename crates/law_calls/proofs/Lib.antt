pub mod RunLemmas
pub mod HostLimits
pub mod HostCauses
pub mod HostValid
pub mod HubChanges
pub mod HubCauses
pub mod HubLimits
