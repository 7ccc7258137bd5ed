pub mod View
pub mod Taking
pub mod Step
pub mod Faults
pub mod Causes
pub mod Place
pub mod Snapshot
