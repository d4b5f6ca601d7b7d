pub mod BlockLemmas
pub mod BodyLemmas
pub mod NamedBlocks
pub mod NoteLemmas
pub mod ToldCuts
pub mod ToldLemmas
