pub mod Costs
pub mod Walk
