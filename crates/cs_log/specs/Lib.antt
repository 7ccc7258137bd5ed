pub mod Bytes
pub mod Crash
pub mod Faults
pub mod Frames
pub mod Tears
