pub mod Roll
pub mod Summary
pub mod Same
pub mod Sight
pub mod SameByRegion
