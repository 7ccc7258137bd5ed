pub mod Gained
pub mod Takes
pub mod Regions
pub mod Shelves
pub mod Whole
pub mod Taken
pub mod Names
