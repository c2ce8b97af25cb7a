pub mod Sound
pub mod Follows
pub mod History
