pub mod Begun
pub mod Depths
pub mod Keyed
