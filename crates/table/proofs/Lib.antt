pub mod Address
pub mod Writes
pub mod Check
pub mod Stops
