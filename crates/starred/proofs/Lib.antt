pub mod Worked
pub mod Starred
