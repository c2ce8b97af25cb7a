pub mod Near
pub mod Nearest
pub mod Spoiler
pub mod Test
pub mod Way
