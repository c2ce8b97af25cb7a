pub mod Decided
pub mod Checks
pub mod Numbers
pub mod Passed
pub mod Exactly
