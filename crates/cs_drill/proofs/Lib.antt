pub mod Allowed
pub mod Batches
pub mod Lists
pub mod States
pub mod Steps
