pub mod Coordinate
pub mod Move
pub mod Decided
