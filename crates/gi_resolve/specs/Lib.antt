pub mod Meant
pub mod Numbered
