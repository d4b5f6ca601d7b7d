pub mod Counted
pub mod Accepted
pub mod Defined
pub mod ReadNumbers
pub mod Typed
pub mod BlocksThere
pub mod Begins
pub mod Example
