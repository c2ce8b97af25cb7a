pub mod Pause
pub mod Plain
pub mod Increase
pub mod Marks
pub mod Bytes
pub mod Samples
pub mod Exactly
