pub mod Replaying
pub mod Told
