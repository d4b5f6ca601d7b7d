pub mod InBlock
pub mod Loads
pub mod Numbered
pub mod Sized
pub mod Typed
pub mod Widths
