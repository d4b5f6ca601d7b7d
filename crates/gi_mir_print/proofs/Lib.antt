pub mod FunctionLemmas
pub mod LineLemmas
pub mod ListSteps
pub mod NoteLemmas
pub mod OperandLemmas
pub mod PieceLemmas
