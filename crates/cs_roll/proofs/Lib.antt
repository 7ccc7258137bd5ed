pub mod Numbers
pub mod Summaries
pub mod Rows
pub mod Same
pub mod Parts
pub mod Pointwise
pub mod SameByRegion
