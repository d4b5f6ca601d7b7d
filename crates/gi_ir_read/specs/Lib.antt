pub mod Groups
pub mod Stops
