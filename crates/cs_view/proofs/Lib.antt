pub mod Finding
pub mod Passing
pub mod Faultless
pub mod Spelled
pub mod Listed
pub mod Outcomes
pub mod WellFormed
pub mod Causes
pub mod Again
pub mod Placed
pub mod Quiet
mod Holders
