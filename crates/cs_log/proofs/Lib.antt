pub mod Readings
pub mod Torn
pub mod Left
