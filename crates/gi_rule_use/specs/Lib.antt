pub mod Making
pub mod Staging
