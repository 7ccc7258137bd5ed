pub mod Pending
pub mod Counting
pub mod Reportable
