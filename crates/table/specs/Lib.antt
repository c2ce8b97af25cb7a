pub mod Table
pub mod Check
pub mod Path
