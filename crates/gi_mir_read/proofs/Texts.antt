pub mod LineCuts
pub mod LineTests
pub mod PartCuts
pub mod SectionCuts
pub mod TextLemmas
pub mod TripleLemmas
