pub mod Coordinate
pub mod Mark
pub mod Samples
pub mod Sweep
pub mod Valid
