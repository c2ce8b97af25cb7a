pub mod Calls
pub mod Upload
pub mod Alike
