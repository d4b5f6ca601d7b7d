pub mod Addresses
pub mod Materialised
pub mod SelectedBranches
pub mod SelectedFunctions
pub mod SelectionRules
pub mod Steps
