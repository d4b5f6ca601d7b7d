pub mod BeginningLemmas
pub mod KeptLemmas
pub mod NumberLemmas
pub mod SplitLemmas
pub mod TellingLemmas
