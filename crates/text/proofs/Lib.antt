pub mod Written
pub mod Decimal
pub mod Value
pub mod Size
