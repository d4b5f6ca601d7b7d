pub mod InPlace
pub mod Standing
pub mod Told
