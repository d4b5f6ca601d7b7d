pub mod Available
pub mod Definitions
pub mod Examples
pub mod Facts
pub mod Faults
pub mod Typing
pub mod Valid
