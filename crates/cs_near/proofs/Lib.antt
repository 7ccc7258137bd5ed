pub mod Products
pub mod Found
pub mod Ranks
pub mod Medians
pub mod Nearness
