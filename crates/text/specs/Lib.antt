pub mod Text
pub mod Writes
