pub mod Documents
pub mod Functions
pub mod Lines
pub mod Sizes
pub mod Texts
pub mod Triples
