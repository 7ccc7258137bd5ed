pub mod Limits
pub mod Kinds
pub mod Rows
pub mod Grammar
pub mod Parts
pub mod Spelling
pub mod Event
