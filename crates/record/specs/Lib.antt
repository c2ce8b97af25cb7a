pub mod Record
pub mod Plain
