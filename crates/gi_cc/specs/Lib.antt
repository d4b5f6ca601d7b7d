pub mod Assigned
pub mod Examples
