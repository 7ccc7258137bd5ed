pub mod Reading
pub mod Whole
pub mod Numbers
pub mod Counted
pub mod Fields
pub mod Changes
pub mod Writing
