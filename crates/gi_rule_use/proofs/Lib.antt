pub mod Accepted
pub mod Formed
pub mod Registers
