pub mod Gaps
pub mod Layout
pub mod NormalForms
pub mod Tables
pub mod Weights
