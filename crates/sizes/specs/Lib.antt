pub mod Setup
pub mod Rows
