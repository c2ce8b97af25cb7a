pub mod Records
pub mod Filled
pub mod Lines
pub mod Listed
pub mod Reported
pub mod Restarts
pub mod Day
