pub mod Beginnings
pub mod Flagged
pub mod Readings
pub mod Splits
pub mod Stops
pub mod Telling
pub mod Turns
