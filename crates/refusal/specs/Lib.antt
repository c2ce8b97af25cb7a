pub mod Number
pub mod Check
