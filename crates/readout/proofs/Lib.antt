mod Scan
mod Lay
mod Down
mod Count
pub mod Unique
pub mod Meaning
pub mod Exists
