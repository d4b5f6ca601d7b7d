pub mod CutLemmas
pub mod LawLemmas
pub mod NextLemmas
pub mod NumberLemmas
pub mod RunLemmas
pub mod StepLemmas
