pub mod Rows
pub mod Sums
pub mod Tally
pub mod Exit
pub mod Meaning
