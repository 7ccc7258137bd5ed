pub mod Codec
pub mod NumberBytes
pub mod Raw
pub mod Numbers
pub mod Writing
pub mod Counted
pub mod Loops
pub mod Fields
pub mod Lists
pub mod Changes
mod Entries
