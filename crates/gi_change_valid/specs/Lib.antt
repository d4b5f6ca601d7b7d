pub mod Conditions
pub mod Numbers
pub mod Rewriting
