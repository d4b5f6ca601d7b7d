pub mod Cursors
pub mod Cutting
pub mod Kinds
pub mod Numbers
pub mod Steps
