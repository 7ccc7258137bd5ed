pub mod Counts
pub mod Room
pub mod Sent
pub mod Received
pub mod Maps
pub mod Failing
