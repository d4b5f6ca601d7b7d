pub mod Appended
pub mod Stop
