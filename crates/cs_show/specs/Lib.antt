pub mod Text
pub mod Block
pub mod Agreement
pub mod PrintedTrees
