pub mod Pause
pub mod Restart
pub mod Plain
