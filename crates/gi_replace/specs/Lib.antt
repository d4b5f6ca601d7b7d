pub mod Applying
pub mod InPlace
