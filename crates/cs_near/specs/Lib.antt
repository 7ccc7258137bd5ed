pub mod Sums
pub mod Distance
pub mod Nearest
pub mod Widest
pub mod Middle
