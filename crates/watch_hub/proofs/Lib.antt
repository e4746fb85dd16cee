mod Calls
mod Gathering
mod Going
mod Looking
mod Losing
mod Spending
mod Stepping
mod Telling
