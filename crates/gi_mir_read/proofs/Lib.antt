pub mod Documents
pub mod Functions
pub mod Lines
pub mod ReadLemmas
pub mod RunCuts
pub mod SizeLemmas
pub mod TableLemmas
pub mod Texts
