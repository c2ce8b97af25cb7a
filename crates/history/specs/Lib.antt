pub mod Run
pub mod Hold
