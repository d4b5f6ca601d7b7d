pub mod LineTexts
pub mod Parted
pub mod Placed
pub mod Sectioned
