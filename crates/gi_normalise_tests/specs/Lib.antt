pub mod Branches
pub mod Sound
