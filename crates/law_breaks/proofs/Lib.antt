mod Found
mod Names
mod Routing
mod Limits
mod Ports
mod Causes
