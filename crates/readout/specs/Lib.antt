pub mod Read
pub mod Lay
