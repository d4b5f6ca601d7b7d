pub mod ChosenLemmas
pub mod OptionLemmas
