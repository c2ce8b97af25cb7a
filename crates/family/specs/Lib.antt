pub mod Lists
pub mod Levels
pub mod Path
pub mod Fine
pub mod Family
