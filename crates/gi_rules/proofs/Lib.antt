mod Examples
mod FittingExamples
mod IllegalLines
pub mod ToldLines
