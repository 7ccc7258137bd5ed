pub mod Held
pub mod Kept
pub mod Pieces
pub mod Taking
pub mod Whole
