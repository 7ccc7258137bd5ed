pub mod Draws
pub mod Limits
pub mod Schedule
pub mod Plan
pub mod Planned
