pub mod Record
pub mod Plain
pub mod Examples
pub mod Exactly
