pub mod Day
pub mod Fill
