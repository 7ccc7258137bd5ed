pub mod Sent
pub mod Shelves
