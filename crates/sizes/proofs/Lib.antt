pub mod Decided
pub mod Held
